-- Counts of null rows.
use Rattle.std.proofs.Common.{◌≡◌, ◌<◌, ℕ, suc, ◌+◌, Bool, true, false, not, List, [], ◌∷◌}
use Rattle.std.proofs.Common.{refl, ap, sym, ◌∙◌, length, arith, if◌then◌else◌}
use Rattle.std.specs.Prelude.{count_by, slice_index_or}
use Rattle.std.proofs.lemmas.List.Sums.{sum_by-cons}
use Rattle.vortex_types.specs.Values.{Value, is_null}
use Rattle.vortex_columns.specs.ColumnView.{row}

twice : (b : Bool) → not (not b) ≡ b
twice true = refl
twice false = refl

one_if : (A : Type 0) (p : A → Bool) (x : A) (xs : List A)
    → count_by p (x ∷ xs) ≡ (if p x then 1 else 0) + count_by p xs
one_if A p x xs = sum_by-cons (λ y. if p y then 1 else 0) x xs

-- as many bits are not set as rows are null
pub unset_are_null : (bits : List Bool) (vs : List Value) → length bits ≡ length vs
    → ((i : ℕ) → i < length vs → slice_index_or bits i false ≡ not (is_null (row vs i)))
    → count_by not bits ≡ count_by is_null vs
unset_are_null [] [] e h = refl
unset_are_null [] (v ∷ vs) e h = absurd (omega (arith, e))
unset_are_null (b ∷ bits) [] e h = absurd (omega (arith, e))
unset_are_null (b ∷ bits) (v ∷ vs) e h =
    let first : not b ≡ is_null v = ap not (h 0 (omega arith)) ∙ twice (is_null v) in
    let rest : count_by not bits ≡ count_by is_null vs =
    unset_are_null bits vs (omega (arith, e)) (λ i lt. h (suc i) (omega (arith, lt)))
    in
    one_if Bool not b bits
    ∙ (λ i. (if first i then 1 else 0) + rest i)
    ∙ sym (one_if Value is_null v vs)

pub none_null : (vs : List Value) → ((i : ℕ) → i < length vs → true ≡ not (is_null (row vs i)))
    → 0 ≡ count_by is_null vs
none_null [] h = refl
none_null (v ∷ vs) h =
    let first : false ≡ is_null v = ap not (h 0 (omega arith)) ∙ twice (is_null v) in
    let rest : 0 ≡ count_by is_null vs = none_null vs (λ i lt. h (suc i) (omega (arith, lt))) in
    (λ i. (if first i then 1 else 0) + rest i) ∙ sym (one_if Value is_null v vs)

pub each_null : (vs : List Value) → ((i : ℕ) → i < length vs → false ≡ not (is_null (row vs i)))
    → length vs ≡ count_by is_null vs
each_null [] h = refl
each_null (v ∷ vs) h =
    let first : true ≡ is_null v = ap not (h 0 (omega arith)) ∙ twice (is_null v) in
    let rest : length vs ≡ count_by is_null vs =
    each_null vs (λ i lt. h (suc i) (omega (arith, lt)))
    in
    let one : suc (length vs) ≡ 1 + length vs = omega arith in
    one ∙ (λ i. (if first i then 1 else 0) + rest i) ∙ sym (one_if Value is_null v vs)
