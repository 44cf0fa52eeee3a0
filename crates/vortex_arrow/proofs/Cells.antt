-- Integers that are written one by one, and the truth value of a constant.
use Rattle.std.proofs.Common.{◌≡◌, ◌⊎◌, inl, inr, ℕ, ◌+◌, ◌<◌, ℤ, pos, true, false, List}
use Rattle.std.proofs.Common.{length, map, set, drop, get_or, refl, sym, ap, ◌∙◌, subst, arith}
use Rattle.std.specs.Prelude.{unwrap_or}
use Rattle.std.proofs.lemmas.List.{map-set, get_or-set_same, get_or-set_other, drop-set-lt}
use Rattle.std.proofs.lemmas.List.{length-map}
use Rattle.std.proofs.lemmas.List.FromFn.{get_or-map-range_with_len}
use Rattle.vortex_types.specs.LogicalTypes.{LogicalType, null_type, bool_type, integer_type}
use Rattle.vortex_types.specs.LogicalTypes.{text_type, bytes_type, struct_type, list_type}
use Rattle.vortex_types.specs.LogicalTypes.{fixed_size_list_type, map_type, is_bool_type}
use Rattle.vortex_types.specs.Values.{Value, null, truth, number, text, bytes, list, truth_of}
use Rattle.vortex_types.specs.Typing.{HasType}
use Rattle.vortex_types.specs.ScalarView.{ScalarView}
use Rattle.vortex_columns.specs.ColumnView.{ColumnView, row, IsUnlessNull, constant_column}
use Rattle.vortex_arrow.proofs.Parts.{drop_further}

pub below_or_last : (k i : ℕ) → k < i + 1 → (k < i) ⊎ (k ≡ i)
below_or_last k i h = grind arith

module _ {A : Type 0} (f : A → ℤ) (xs : List A) (i : ℕ) (x : A) (within : i < length xs) where
  -- a number that is set
  pub number_here : get_or (map f (set xs i x)) i (pos 0) ≡ f x
  number_here =
      ap (λ (l : List ℤ). get_or l i (pos 0)) (map-set f xs i x)
      ∙ get_or-set_same (map f xs) i (f x) (pos 0) (omega (arith, length-map xs f))

  pub number_there : (k : ℕ) → k < i
      → get_or (map f (set xs i x)) k (pos 0) ≡ get_or (map f xs) k (pos 0)
  number_there k lt =
      ap (λ (l : List ℤ). get_or l k (pos 0)) (map-set f xs i x)
      ∙ get_or-set_other (map f xs) i k (f x) (pos 0) (λ e. absurd (omega (arith, e)))

  more_by : (rows : List Value)
      → ((k : ℕ) → k < i → IsUnlessNull (row rows k) (number (get_or (map f xs) k (pos 0))))
      → IsUnlessNull (row rows i) (number (f x)) → (k : ℕ) → (k < i) ⊎ (k ≡ i)
      → IsUnlessNull (row rows k) (number (get_or (map f (set xs i x)) k (pos 0)))
  more_by rows so_far here k (inl lt) =
      λ valid. so_far k lt valid ∙ ap number (sym (number_there k lt))
  more_by rows so_far here k (inr is) =
      subst (λ m. IsUnlessNull (row rows m) (number (get_or (map f (set xs i x)) m (pos 0))))
      (sym is) (λ valid. here valid ∙ ap number (sym number_here))

  pub more_integers : (rows : List Value)
      → ((k : ℕ) → k < i → IsUnlessNull (row rows k) (number (get_or (map f xs) k (pos 0))))
      → IsUnlessNull (row rows i) (number (f x)) → (k : ℕ) → k < i + 1
      → IsUnlessNull (row rows k) (number (get_or (map f (set xs i x)) k (pos 0)))
  more_integers rows so_far here k lt = more_by rows so_far here k (below_or_last k i lt)

  pub behind_next : (first : List A) → drop i xs ≡ drop i first
      → drop (i + 1) (set xs i x) ≡ drop (i + 1) first
  behind_next first same =
      drop-set-lt (i + 1) xs i x (omega arith)
      ∙ drop_further xs first i (i + 1) (omega arith) same

truth_told : (t : LogicalType) (v : Value) → is_bool_type t ≡ true → HasType t v
    → IsUnlessNull v (truth (unwrap_or (truth_of v) false))
truth_told (bool_type n) (truth b) kind h valid = refl
truth_told (bool_type n) null kind h valid = absurd (cc)
truth_told (bool_type n) (number z) kind h valid = absurd h
truth_told (bool_type n) (text bs) kind h valid = absurd h
truth_told (bool_type n) (bytes bs) kind h valid = absurd h
truth_told (bool_type n) (list vs) kind h valid = absurd h
truth_told null_type v kind h valid = absurd (cc)
truth_told (integer_type p n) v kind h valid = absurd (cc)
truth_told (text_type n) v kind h valid = absurd (cc)
truth_told (bytes_type n) v kind h valid = absurd (cc)
truth_told (struct_type fs n) v kind h valid = absurd (cc)
truth_told (list_type t n) v kind h valid = absurd (cc)
truth_told (fixed_size_list_type t s n) v kind h valid = absurd (cc)
truth_told (map_type kt vt n) v kind h valid = absurd (cc)

-- the truth value of a constant, in each row
pub constant_told : (c : ColumnView) (s : ScalarView) → c ≡ constant_column s (length c.rows)
    → is_bool_type c.dtype ≡ true → HasType s.dtype s.value → (i : ℕ) → i < length c.rows
    → IsUnlessNull (row c.rows i) (truth (unwrap_or (truth_of s.value) false))
constant_told c s is kind typed i lt =
    let same : row c.rows i ≡ s.value =
    ap (λ (d : ColumnView). row d.rows i) is
    ∙ get_or-map-range_with_len (λ k. s.value) 0 (length c.rows) i i null lt (omega arith) in
    subst (λ (v : Value). IsUnlessNull v (truth (unwrap_or (truth_of s.value) false))) (sym same)
    (truth_told s.dtype s.value (sym (ap (λ (d : ColumnView). is_bool_type d.dtype) is) ∙ kind)
    typed)
