-- Byte strings are equal exactly where their order is Equal.
use Rattle.std.proofs.Common.{◌≡◌, ℕ, Bool, true, false, IsTrue, List, [], ◌∷◌, refl, sym, ap, ◌∙◌}
use Rattle.std.specs.Prelude.{◌↔◌}
use Rattle.std.specs.Cmp.Lexicographic.{slice_cmp}
use Rattle.std.specs.Ordering.{nat_cmp, is_eq, ordering_then}
use Rattle.std.specs.declared.cmp.Ordering.{Ordering}
use Rattle.std.specs.declared.cmp.Ordering.TheVariants.{Less, Equal, Greater}
use Rattle.std.proofs.lemmas.Map.Lookups.{exact_bytes}
use Rattle.vortex_views.proofs.Digits.{cmp_equal}

alike : (xs : List ℕ) → slice_cmp nat_cmp xs xs ≡ Equal
alike [] = refl
alike (x ∷ xs) = ap (λ (o : Ordering). ordering_then o (slice_cmp nat_cmp xs xs))
    (cmp_equal x x refl) ∙ alike xs

is_equal : (o : Ordering) → is_eq o ≡ true → o ≡ Equal
is_equal Less h = cc
is_equal Equal h = refl
is_equal Greater h = cc

by_order : (b e : Bool) (xs ys : List ℕ) → (IsTrue b ↔ (xs ≡ ys))
    → is_eq (slice_cmp nat_cmp xs ys) ≡ e
    → b ≡ e
by_order true true xs ys h k = refl
by_order false false xs ys h k = refl
by_order true false xs ys h k =
    sym (ap is_eq (alike xs))
    ∙ ap (λ (zs : List ℕ). is_eq (slice_cmp nat_cmp xs zs)) (h.0 refl) ∙ k
by_order false true xs ys h k = h.1 (exact_bytes xs ys (is_equal (slice_cmp nat_cmp xs ys) k))

pub equal_by_order : (b : Bool) (xs ys : List ℕ) → (IsTrue b ↔ (xs ≡ ys))
    → b ≡ is_eq (slice_cmp nat_cmp xs ys)
equal_by_order b xs ys h = by_order b (is_eq (slice_cmp nat_cmp xs ys)) xs ys h refl
