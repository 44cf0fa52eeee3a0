use Rattle.std.proofs.Common.{◌≡◌, take}
use Rattle.rowfn_index.specs.Chunks.{rows_of}
use Rattle.rowfn_index.proofs.range.rows_of.Given as goal

-- the rows of the chunks so far
abbrev pub invariant-loop-chunk : goal.invariant-loop-chunk
invariant-loop-chunk l = l.rows ≡ rows_of (take l.chunk-index l.chunks)
