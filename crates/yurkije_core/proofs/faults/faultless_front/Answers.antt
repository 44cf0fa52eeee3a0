use Rattle.std.proofs.Common.{arith, map}
use Rattle.vortex_program.specs.Programs.{trees_of}
use Rattle.yurkije_columns.specs.Batches.{batch_column}
use Rattle.yurkije_core.proofs.ChunkRows.{chunk_at}
use Rattle.yurkije_core.proofs.Looked.{given_on}
use Rattle.yurkije_core.proofs.faults.faultless_front.Goals as goal

pub gives_where_lent-requires-clause-chunk : goal.gives_where_lent-requires-clause-chunk
gives_where_lent-requires-clause-chunk c =
    chunk_at c.parts.first c.args.count c.args.rows c.args.columns.now
    (omega (arith, c.parts.invariant.some, c.parts-test.true)) c.requires.chunk c.requires.place

pub parts-preserved : goal.parts-preserved
parts-preserved c =
    let cs = map (batch_column c.args.rows) c.args.columns.now in
    let us = trees_of c.args.program.now.optimized.items in
    record {
      some = omega (arith, c.parts-test.true);
      given = given_on cs c.parts.first c.args.count us c.parts.invariant.given
          (c.gives_where_lent.ensures c.if-gives_where_lent.true c.args.rows);
    }
