use Rattle.std.proofs.Common.{List, Option, arith, map, subst, take_all}
use Rattle.vortex_arrow.specs.declared.column.ArrowColumn.{ArrowColumn}
use Rattle.vortex_functions.specs.Walks.{AllMean}
use Rattle.vortex_program.specs.Rows.{HasRows}
use Rattle.yurkije_columns.specs.Batches.{batch_column}
use Rattle.yurkije_core.proofs.ChunkRows.{rows_next}
use Rattle.yurkije_lent.proofs.CallRows.{mapped_more}
use Rattle.yurkije_core.proofs.parts.parts_of.Goals as goal

pub loop-k-preserved : goal.loop-k-preserved
loop-k-preserved c = λ n.
    let view = batch_column c.args.count in
    rw c.in-Ok.ensures.items
    (rw (mapped_more view c.loop-k.parts.items c.part_of.result)
    (rows_next c.args.first c.args.count n c.args.columns.now (map view c.loop-k.parts.items)
    c.loop-k.k _ (view c.part_of.result) c.loop-k-test.true (c.loop-k.invariant n)
    (c.part_of.ensures n)))

pub returns : goal.returns
returns c = λ n.
    subst
    (λ (os : List (Option ArrowColumn)).
    AllMean (HasRows c.args.first c.args.count) (map (batch_column n) os)
    (map (batch_column c.args.count) c.loop-k.parts.items))
    (take_all c.loop-k.k c.args.columns.now (omega (arith, c.loop-k-test.false)))
    (c.loop-k.invariant n)
