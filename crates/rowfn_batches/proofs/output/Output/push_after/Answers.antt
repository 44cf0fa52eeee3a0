use Rattle.std.proofs.Common.{sym, subst, ◌∙◌}
use Rattle.rowfn_csv.specs.declared.format.Format.{Format}
use Rattle.rowfn_batches.specs.Truths.{AreTruths}
use Rattle.rowfn_batches.proofs.Outputs.{behind_line}
use Rattle.rowfn_batches.proofs.output.Output.push_after.Goals as goal

pub returns : goal.returns
returns c =
    behind_line c.args.self.now c.push_bytes.new.self c.push_delimiter.new.self c.push_row.new.self
    c.args.line.now c.without_line_end.result.now c.args.answers.now c.args.place c.push_row.result
    c.without_line_end.ensures c.in_ok-push_bytes.ensures c.in_ok-push_delimiter.ensures
    c.push_row.ensures

pub push_row-requires-clause-truths : goal.push_row-requires-clause-truths
push_row-requires-clause-truths c =
    subst (λ (f : Format). AreTruths f c.args.truths)
    (sym (c.in_ok-push_delimiter.ensures.1 ∙ c.in_ok-push_bytes.ensures.1)) c.requires.truths
