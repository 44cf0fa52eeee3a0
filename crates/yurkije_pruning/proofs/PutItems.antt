-- Items that are written one after another, and what is behind them.
use Rattle.std.proofs.Common.{◌≡◌, inl, inr, ◌+◌, ◌<◌, ℕ, List, [], ◌∷◌, ◌++◌, length, map}
use Rattle.std.proofs.Common.{take, set, get_or, sym, ap, ◌∙◌, arith, refl}
use Rattle.std.proofs.lemmas.List.{take_more, take_more_set, map_push, drop-set-lt}
use Rattle.vortex_arrow.specs.Written.{SameBehind}
use Rattle.vortex_arrow.proofs.Parts.{drop_further}
use Rattle.yurkije_pruning.specs.Verdicts.{HasPlaces}

-- what is written so far, and what is behind that
pub record ArePutSoFar {P : Type 0} (f : P → ℕ) (ps : List P) (old new : List ℕ) (k : ℕ) : Type 0
  where
    pub written : take k new ≡ map f (take k ps)
    pub behind : SameBehind k old new

pub none_put : {P : Type 0} (f : P → ℕ) (ps : List P) (room : List ℕ) → ArePutSoFar f ps room room 0
none_put f ps room = record { written = refl; behind = refl }

-- one item more
pub put_next : {P : Type 0} (f : P → ℕ) (ps : List P) (old room : List ℕ) (k y : ℕ) (d : P)
    → k < length ps → k < length room → y ≡ f (get_or ps k d) → ArePutSoFar f ps old room k
    → ArePutSoFar f ps old (set room k y) (k + 1)
put_next f ps old room k y d within inside is so_far = record {
  written = take_more_set room k y inside
      ∙ ap (λ (xs : List ℕ). xs ++ y ∷ []) so_far.written
      ∙ ap (λ (x : ℕ). map f (take k ps) ++ x ∷ []) is
      ∙ sym (map_push f (take k ps) (get_or ps k d))
      ∙ ap (map f) (sym (take_more ps k d within));
  behind = drop-set-lt (k + 1) room k y (omega arith)
      ∙ drop_further room old k (k + 1) (omega arith) so_far.behind;
}

-- a buffer that is asked for has a place for each
pub has_place : (items n k : ℕ) → HasPlaces items n → 0 < items → k < n → k < items
has_place items n k (inl none) some lt = absurd (omega (arith, none, some))
has_place items n k (inr enough) some lt = omega (arith, enough, lt)
