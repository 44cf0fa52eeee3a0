use Rattle.rowfn_index.proofs.ChunksBetween.{between_more}
use Rattle.rowfn_index.proofs.reading.chunks.chunks_in.Goals as goal

pub loop-row-preserved : goal.loop-row-preserved
loop-row-preserved c =
    rw c.in_ok-push.ensures.items
    (between_more c.args.file.now.header_bytes c.loop-row.chunks.items c.loop-row.end c.in-Some.next
    _ c.loop-row.invariant c.if-chunk-end.false c.in-Some.ensures.1)
