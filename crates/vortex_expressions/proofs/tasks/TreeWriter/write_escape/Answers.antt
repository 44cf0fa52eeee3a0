use Rattle.std.proofs.Common.{subst, ◌∙◌, List, ℕ}
use Rattle.vortex_syntax.specs.Writing.{text_token, Adds}
use Rattle.vortex_expressions.proofs.Walked.{pushes_one}
use Rattle.vortex_expressions.proofs.tasks.TreeWriter.write_escape.Goals as goal

pub returns-clause-written : goal.returns-clause-written
returns-clause-written c =
    pushes_one _ c.args.self.now.writer c.push_text.new.self
    (subst (λ (bs : List ℕ). Adds (text_token bs) c.args.self.now.writer c.push_text.new.self)
    (c.as_str.ensures.value ∙ c.in_ok-text.ensures) c.in_ok-push_text.ensures)
