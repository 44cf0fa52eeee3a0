use Rattle.rowfn_index.specs.Chunks.{AreBetween}
use Rattle.rowfn_index.proofs.reading.chunks.chunks_in.Given as goal

abbrev pub invariant-loop-row : goal.invariant-loop-row
invariant-loop-row l = AreBetween l.file.header_bytes l.chunks.items l.end
