use Rattle.yurkije_core.proofs.ChunkRows.{chunk_at}
use Rattle.std.proofs.Common.{arith}
use Rattle.yurkije_core.proofs.chunks.add_chunks.Goals as goal

pub add_chunk-requires-clause-chunk : goal.add_chunk-requires-clause-chunk
add_chunk-requires-clause-chunk c =
    chunk_at c.chunks.first c.args.count c.args.rows c.args.columns.now
    (omega (arith, c.chunks.invariant.some, c.chunks-test.true)) c.requires.chunk c.requires.place

pub add_chunk-requires-clause-lent : goal.add_chunk-requires-clause-lent
add_chunk-requires-clause-lent c = λ lent. c.is_lent-is_lent.ensures lent c.args.rows

pub add_chunk-requires-2-clause-lent : goal.add_chunk-requires-2-clause-lent
add_chunk-requires-2-clause-lent c = λ lent. c.is_lent-is_lent.ensures lent c.args.rows
