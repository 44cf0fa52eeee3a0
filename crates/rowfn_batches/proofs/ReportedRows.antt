-- The line of a row that is refused, part by part.
use Rattle.std.proofs.Common.{◌≡◌, ◌∙◌, ◌++◌, ◌∷◌, [], ℕ, List, Bool, ap, append_assoc}
use Rattle.std.specs.Prelude.{decimal}
use Rattle.rowfn_batches.specs.declared.errors.StreamError.{StreamError}
use Rattle.rowfn_batches.specs.Refusals.{AddsLine, header_before, row_shown}

regrouped : (a b c d : List ℕ)
    → (((a ++ b) ++ c) ++ (44 ∷ [])) ++ d ≡ a ++ (b ++ (c ++ (44 ∷ d)))
regrouped a b c d = simp append_assoc

-- behind the header comes the number, a comma and the rest
pub line_added : (was : Bool) (e : StreamError) (old headed numbered parted new told : List ℕ)
    (row : ℕ) → headed ≡ old ++ header_before was → numbered ≡ headed ++ decimal row
    → parted ≡ numbered ++ 44 ∷ [] → new ≡ parted ++ told → row ≡ row_shown e
    → AddsLine was e old new
line_added was e old headed numbered parted new told row h n p t r = record {
  told = told;
  added =
      t
      ∙ ap (λ (x : List ℕ). x ++ told)
      (p ∙ ap (λ (x : List ℕ). x ++ 44 ∷ []) (n ∙ ap (λ (x : List ℕ). x ++ decimal row) h))
      ∙ regrouped old (header_before was) (decimal row) told
      ∙ ap (λ (k : ℕ). old ++ (header_before was ++ (decimal k ++ (44 ∷ told)))) r;
}
