use Rattle.std.proofs.Common.{◌∷◌, [], ◌++◌, ◌∙◌, List, ℕ, ap, refl, sym, subst}
use Rattle.rowfn_csv.specs.declared.format.Format.{Format}
use Rattle.rowfn_batches.specs.Truths.{AreTruths}
use Rattle.rowfn_batches.proofs.Lines.{next_line}
use Rattle.rowfn_batches.proofs.TruthFields.{one_line}
use Rattle.rowfn_batches.proofs.output.Output.push_truths.Goals as goal

pub loop-row-preserved : goal.loop-row-preserved
loop-row-preserved c =
    next_line c.args.self.now c.loop-row.self
    (record c.loop-row.self { bytes = c.push_truth_line.new.bytes }) (c.args.rows.now ∷ [])
    c.loop-row.row c.loop-row.invariant (
      c.in_ok-push_truth_line.ensures
          ∙ ap (λ (t : List ℕ). c.loop-row.self.bytes.items ++ t)
          (one_line c.loop-row.self.format c.args.rows.now
          c.loop-row.row),
      refl,
    )

pub push_truth_line-requires-clause-truths : goal.push_truth_line-requires-clause-truths
push_truth_line-requires-clause-truths c =
    subst (λ (f : Format). AreTruths f c.args.truths) (sym c.loop-row.invariant.1) c.requires.truths
