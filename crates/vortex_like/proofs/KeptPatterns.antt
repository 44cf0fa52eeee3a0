-- Compiled patterns in a cache, by their index.
use Rattle.std.proofs.Common.{◌≡◌, ℕ, inl, inr, List, [], ◌∷◌, ◌++◌, length, refl, sym, subst}
use Rattle.std.proofs.Common.{arith, length-set, ◌∙◌, ap}
use Rattle.std.specs.Prelude.{string_bytes, slice_set}
use Rattle.std.specs.List.{All, HoldsAt}
use Rattle.std.proofs.lemmas.List.{get_or_push, length_push, get_or-set_same}
use Rattle.std.proofs.lemmas.List.Elements.{All-push, All-set, All-same}
use Rattle.vortex_like.specs.EachPattern.{IsKept, IsKeptAt}
use Rattle.vortex_like.specs.declared.each_pattern.CompiledPattern.{CompiledPattern}

-- a property of each cached pattern, and of the new one, holds for each in the new cache
pub all_kept : (P : CompiledPattern → Type 0) (own : CompiledPattern) (at : ℕ)
    (old new : List CompiledPattern) → IsKept own at old new → All P old → P own → All P new
all_kept P own at old new (inl e) h p = All-same P new (old ++ own ∷ []) e.0 (All-push P old own h p)
all_kept P own at old new (inr e) h p =
    All-same P new (slice_set old at own) e.0 (All-set P old at own p h)

-- the new pattern is cached at its index
pub kept_there : (bytes : List ℕ) (own : CompiledPattern) (at : ℕ)
    (old new : List CompiledPattern) → IsKept own at old new → string_bytes own.text ≡ bytes
    → IsKeptAt bytes new at
kept_there bytes own at old new (inl e) t =
    let pushed : IsKeptAt bytes (old ++ own ∷ []) (length old) = (
      omega (arith, length_push old own),
      λ d. ap (λ (p : CompiledPattern). string_bytes p.text) (get_or_push old own d (length old) refl) ∙ t,
    ) in
    subst (λ (ps : List CompiledPattern). IsKeptAt bytes ps at) (sym e.0)
    (subst (λ (n : ℕ). IsKeptAt bytes (old ++ own ∷ []) n) (sym e.1) pushed)
kept_there bytes own at old new (inr e) t =
    let put : IsKeptAt bytes (slice_set old at own) at = (
      omega (arith, length-set old at own, e.1),
      λ d. ap (λ (p : CompiledPattern). string_bytes p.text) (get_or-set_same old at own d e.1) ∙ t,
    ) in
    subst (λ (ps : List CompiledPattern). IsKeptAt bytes ps at) (sym e.0) put

-- a property of each cached pattern holds for the one that is read
pub kept_is : (P : CompiledPattern → Type 0) (own : CompiledPattern) (bytes : List ℕ) (at : ℕ)
    (kept : List CompiledPattern) → All P kept → IsKeptAt bytes kept at
    → HoldsAt (λ p. p ≡ own) kept at → P own × (string_bytes own.text ≡ bytes)
kept_is P own bytes at kept h there is = (
  subst P (is own) (h at own there.0),
  subst (λ (p : CompiledPattern). string_bytes p.text ≡ bytes) (is own) (there.1 own),
)
