use Rattle.std.specs.Borrow.{Bor}
use Rattle.std.proofs.Common.{Option, subst, ap, sym, ◌∙◌}
use Rattle.std.specs.Prelude.{option_map}
use Rattle.yurkije_core.specs.declared.expression.Expression.{Expression}
use Rattle.yurkije.specs.Views.{ProgramView, program_view}
use Rattle.yurkije.specs.Answering.{Runs}
use Rattle.yurkije.proofs.running.run_held.Goals as goal

pub returns-in-Some : goal.returns-in-Some
returns-in-Some c =
    subst
    (λ (o : Option ProgramView).
    Runs o c.args.columns.now c.args.rows c.run.new.answers.held c.run.result
    c.args.error.now c.run.new.error)
    (ap (option_map (λ (e : Bor Expression). program_view e.now)) (sym c.in-Some.is)
    ∙ c.expression.ensures) c.run.ensures
