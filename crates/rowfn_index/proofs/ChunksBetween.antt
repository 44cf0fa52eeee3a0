-- Chunks that follow one another, and one more.
use Rattle.std.proofs.Common.{◌≡◌, ℕ, ◌+◌, List, [], ◌∷◌, ◌++◌, refl, sym, ◌∙◌}
use Rattle.rowfn_index.specs.declared.chunk.Chunk.{Chunk}
use Rattle.rowfn_index.specs.Chunks.{AreBetween}

pub between_more : (start : ℕ) (cs : List Chunk) (end next : ℕ) (c : Chunk)
    → AreBetween start cs end → c.offset ≡ end → next ≡ end + c.bytes
    → AreBetween start (cs ++ (c ∷ [])) next
between_more start [] end next c h at is =
    (at ∙ sym h, (λ i. h i + c.bytes) ∙ sym is)
between_more start (d ∷ cs) end next c h at is =
    (h.0, between_more (start + d.bytes) cs end next c h.1 at is)
