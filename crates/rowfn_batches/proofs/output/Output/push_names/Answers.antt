use Rattle.std.proofs.Common.{arith}
use Rattle.std.proofs.lemmas.List.{length-map}
use Rattle.std.proofs.Common.{string_bytes, ap, sym, ◌∙◌}
use Rattle.vortex_program.specs.declared.answer.Answer.{Answer}
use Rattle.rowfn_batches.specs.Names.{names_of}
use Rattle.rowfn_batches.proofs.Outputs.{next_name, names_ended}
use Rattle.rowfn_batches.proofs.output.Output.push_names.Goals as goal

pub loop-k-preserved : goal.loop-k-preserved
loop-k-preserved c =
    next_name c.args.self.now c.loop-k.self c.push_name.new.self c.args.answers.now c.loop-k.k
    c.index-answers-k.result c.as_str.result.now c.loop-k-test.true c.index-answers-k.is
    (c.as_str.ensures.value ∙ ap (λ (a : Answer). string_bytes a.name) (sym c.index-answers-k.is))
    c.loop-k.invariant c.in_ok-push_name.ensures

pub returns : goal.returns
returns c =
    names_ended c.args.self.now c.loop-k.self c.end_line.new.self (names_of c.args.answers.now)
    c.loop-k.k c.end_line.result
    (omega (arith, length-map c.args.answers.now (λ a. string_bytes a.name)))
    c.loop-k.invariant c.end_line.ensures
