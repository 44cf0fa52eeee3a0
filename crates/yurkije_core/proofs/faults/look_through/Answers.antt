use Rattle.std.proofs.Common.{arith, map}
use Rattle.vortex_program.specs.Programs.{trees_of}
use Rattle.yurkije_columns.specs.Batches.{batch_column}
use Rattle.yurkije_core.proofs.ChunkRows.{chunk_at}
use Rattle.yurkije_core.proofs.Looked.{given_more}
use Rattle.yurkije_core.proofs.faults.look_through.Goals as goal

pub run_chunk-requires-clause-chunk : goal.run_chunk-requires-clause-chunk
run_chunk-requires-clause-chunk c =
    chunk_at c.chunks.first c.args.count c.args.rows c.args.columns.now
    (omega (arith, c.chunks.invariant.some, c.chunks-test.true)) c.requires.chunk c.requires.place

pub run_chunk-requires-clause-lent : goal.run_chunk-requires-clause-lent
run_chunk-requires-clause-lent c = λ lent. c.is_lent-is_lent.ensures lent c.args.rows

pub run_chunk-requires-2-clause-lent : goal.run_chunk-requires-2-clause-lent
run_chunk-requires-2-clause-lent c = λ lent. c.is_lent-is_lent.ensures lent c.args.rows

pub chunks-preserved-in-Ok : goal.chunks-preserved-in-Ok
chunks-preserved-in-Ok c =
    let cs = map (batch_column c.args.rows) c.args.columns.now in
    let us = trees_of c.args.program.now.optimized.items in
    record {
      some = omega (arith, c.chunks-test.true);
      given = given_more cs c.chunks.first c.args.count us _ c.chunks.invariant.given c.in-Ok.ensures.run;
    }
