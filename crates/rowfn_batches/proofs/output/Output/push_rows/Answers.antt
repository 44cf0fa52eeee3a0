use Rattle.std.proofs.Common.{sym, subst, List, arith}
use Rattle.vortex_columns.specs.ColumnView.{ColumnView}
use Rattle.rowfn_batches.specs.Outputs.{HaveRows}
use Rattle.rowfn_csv.specs.declared.format.Format.{Format}
use Rattle.rowfn_batches.specs.Truths.{AreTruths}
use Rattle.rowfn_batches.proofs.Lines.{next_line}
use Rattle.rowfn_batches.proofs.output.Output.push_rows.Goals as goal

pub loop-row-preserved : goal.loop-row-preserved
loop-row-preserved c =
    next_line c.args.self.now c.loop-row.self c.push_row.new.self c.args.answers.now c.loop-row.row
    c.loop-row.invariant c.in_ok-push_row.ensures

pub push_row-requires-clause-truths : goal.push_row-requires-clause-truths
push_row-requires-clause-truths c =
    subst (λ (f : Format). AreTruths f c.truths_of-truths.result) (sym c.loop-row.invariant.1)
    c.truths_of-truths.ensures

pub push_truths-requires-clause-rows : goal.push_truths-requires-clause-rows
push_truths-requires-clause-rows c =
    subst (λ (cs : List ColumnView). HaveRows c.args.row_count cs) c.in-Some.ensures c.requires 0
    c.in-Some.rows (omega arith)

pub push_truths-requires-clause-truths : goal.push_truths-requires-clause-truths
push_truths-requires-clause-truths c = c.truths_of-truths.ensures

pub returns-in-Some : goal.returns-in-Some
returns-in-Some c = rw c.in-Some.ensures c.push_truths.ensures
