use Rattle.std.proofs.Common.{map, option_map, sym, subst}
use Rattle.rowfn_csv.specs.declared.format.Format.{Format}
use Rattle.rowfn_batches.specs.Truths.{AreTruths}
use Rattle.rowfn_csv.specs.KeptLines.{line_of}
use Rattle.rowfn_batches.proofs.Lines.{next_appended}
use Rattle.rowfn_batches.proofs.output.Output.push_appended.Goals as goal

pub loop-place-preserved : goal.loop-place-preserved
loop-place-preserved g c =
    next_appended c.args.self.now c.loop-place.self c.push_after.new.self
    (map (line_of c.args.records.now) c.args.spans.now) (option_map (λ r. r.now) c.args.rows)
    c.args.answers.now c.loop-place.place c.row_among.result c.line_at-line.result.now
    c.row_among.ensures c.line_at-line.ensures c.loop-place.invariant c.in_ok-push_after.ensures

pub push_after-requires-clause-truths : goal.push_after-requires-clause-truths
push_after-requires-clause-truths g c =
    subst (λ (f : Format). AreTruths f c.truths_of-truths.result) (sym c.loop-place.invariant.1)
    c.truths_of-truths.ensures
