-- Chunks of a file: where they are, and those that are read.
use Rattle.std.specs.Prelude.{◌≡◌, ℕ, ◌+◌, List, [], ◌∷◌, Some, slice_get, map, sum, min}
use Rattle.rowfn_index.specs.declared.chunk.Chunk.{Chunk}
use Rattle.rowfn_index.specs.Digests.{digest}

-- chunks follow one another from one byte of a file to another
abbrev pub AreBetween : ℕ → List Chunk → ℕ → Type 0
AreBetween start [] end = start ≡ end
AreBetween start (c ∷ cs) end = (c.offset ≡ start) × AreBetween (start + c.bytes) cs end

-- how many rows chunks have; a count stays at 18,446,744,073,709,551,615
abbrev pub rows_of : List Chunk → ℕ
rows_of cs = min (sum (map (λ c. c.rows) cs)) 18446744073709551615

-- bytes have the digest of the chunk of that number
pub record HasDigest (chunks : List Chunk) (k : ℕ) (bytes : List ℕ) : Type 0 where
  pub chunk : Chunk
  pub found : slice_get chunks k ≡ Some chunk
  pub same : digest bytes ≡ chunk.digest
