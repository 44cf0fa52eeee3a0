use Rattle.std.proofs.Common.{List, Option, arith, map, subst, take_all}
use Rattle.vortex_arrow.specs.declared.column.ArrowColumn.{ArrowColumn}
use Rattle.vortex_functions.specs.Walks.{AllMean}
use Rattle.vortex_program.specs.Rows.{HasRows}
use Rattle.yurkije_columns.specs.Batches.{batch_column}
use Rattle.yurkije_core.proofs.ChunkRows.{rows_next}
use Rattle.yurkije_core.proofs.chunks.read_chunk.Goals as goal

pub loop-k-preserved : goal.loop-k-preserved
loop-k-preserved c = λ n.
    rw c.in-Ok.ensures.items
    (rows_next c.args.first c.args.count n c.args.columns.now c.loop-k.read.items c.loop-k.k _
    c.in-Some.chunk c.loop-k-test.true (c.loop-k.invariant n) (c.in-Some.ensures n))

pub returns : goal.returns
returns c = λ n.
    subst
    (λ (os : List (Option ArrowColumn)).
    AllMean (HasRows c.args.first c.args.count) (map (batch_column n) os) c.loop-k.read.items)
    (take_all c.loop-k.k c.args.columns.now (omega (arith, c.loop-k-test.false)))
    (c.loop-k.invariant n)
