-- Rows that statistics describe, made of a first value, the attained ends, nulls, and one value.
use Rattle.std.specs.Prelude.{◌≡◌, ◌++◌, ℕ, zero, suc, ◌+◌, ◌<◌, List, [], ◌∷◌, ⊤}
use Rattle.std.specs.Prelude.{Bool, true, false, Option, Some, None, IfSome, refl}
use Rattle.std.specs.Prelude.{All, Contains, count_by, length, slice_index_or, if◌then◌else◌}
use Rattle.std.proofs.Common.{arith, sym, ap, ◌∙◌, subst, cond}
use Rattle.std.proofs.lemmas.List.Sums.{sum_by-cons}
use Rattle.vortex_types.specs.LogicalTypes.{LogicalType}
use Rattle.vortex_types.specs.Values.{Value, null, is_null}
use Rattle.vortex_types.specs.Typing.{HasType}
use Rattle.vortex_columns.specs.ColumnView.{ColumnView, row}
use Rattle.vortex_columns.specs.ValidityView.{array}
use Rattle.vortex_statistics.specs.StatisticsView.{EndView, StatisticsView, IsEndOf, AreConsistent}
use Rattle.vortex_statistics.specs.StatisticsView.{is_at_most, are_in_order}
use Rattle.vortex_statistics.specs.Describes.{is_at_least, IsBehind, IsEnd}
use Rattle.vortex_statistics.proofs.ValueOrder.{at_most_itself}
use Rattle.vortex_ranges.specs.Described.{IsDescribed}
use Rattle.vortex_pruning.specs.Sharpness.{rows_taken}

-- a property of each item, and of items of two lists
abbrev pub Each : {A : Type 0} → (A → Type 0) → List A → Type 0
Each P [] = ⊤
Each P (x ∷ xs) = P x × Each P xs

pub each_all : {A : Type 0} (P : A → Type 0) (xs : List A) → Each P xs → All P xs
each_all P [] h k d lt = absurd (omega (arith, lt))
each_all P (x ∷ xs) h zero d lt = h.0
each_all P (x ∷ xs) h (suc k) d lt = each_all P xs h.1 k d (omega (arith, lt))

each_of_both : {A : Type 0} (P : A → Type 0) (xs ys : List A) → Each P xs → Each P ys
    → Each P (xs ++ ys)
each_of_both P [] ys h g = g
each_of_both P (x ∷ xs) ys h g = (h.0, each_of_both P xs ys h.1 g)

in_more : {A : Type 0} (v x : A) (xs : List A) → Contains xs v → Contains (x ∷ xs) v
in_more v x xs h = (suc h.0, omega (arith, h.1), h.2)

in_first : {A : Type 0} (v : A) (xs ys : List A) → Contains xs v → Contains (xs ++ ys) v
in_first v [] ys h = absurd (omega (arith, h.1))
in_first {A} v (x ∷ xs) ys h = by h.0 h.1 h.2 (λ k. in_first v xs ys k)
  where
    by : (k : ℕ) → k < length (x ∷ xs) → slice_index_or (x ∷ xs) k v ≡ v
        → (Contains xs v → Contains (xs ++ ys) v) → Contains (x ∷ (xs ++ ys)) v
    by zero lt e f = (0, omega arith, e)
    by (suc k) lt e f = in_more v x (xs ++ ys) (f (k, omega (arith, lt), e))

in_second : {A : Type 0} (v : A) (xs ys : List A) → Contains ys v → Contains (xs ++ ys) v
in_second v [] ys h = h
in_second v (x ∷ xs) ys h = in_more v x (xs ++ ys) (in_second v xs ys h)

length_of_both : {A : Type 0} (xs ys : List A) → length (xs ++ ys) ≡ length xs + length ys
length_of_both [] ys = omega arith
length_of_both (x ∷ xs) ys = omega (arith, length_of_both xs ys)

-- how many are null
one_more : (v : Value) (vs : List Value)
    → count_by is_null (v ∷ vs) ≡ (if is_null v then 1 else 0) + count_by is_null vs
one_more v vs = sum_by-cons (λ w. if is_null w then 1 else 0) v vs

nulls_of_both : (xs ys : List Value)
    → count_by is_null (xs ++ ys) ≡ count_by is_null xs + count_by is_null ys
nulls_of_both [] ys = omega arith
nulls_of_both (x ∷ xs) ys =
    omega (arith, one_more x (xs ++ ys), nulls_of_both xs ys, one_more x xs)

not_counted : (v : Value) (vs : List Value) → is_null v ≡ false
    → count_by is_null (v ∷ vs) ≡ count_by is_null vs
not_counted v vs e =
    one_more v vs ∙ ap (λ b. (if b then 1 else 0) + count_by is_null vs) e ∙ omega arith

pub repeated : ℕ → Value → List Value
repeated zero v = []
repeated (suc k) v = v ∷ repeated k v

length_repeated : (k : ℕ) (v : Value) → length (repeated k v) ≡ k
unfolding repeated
length_repeated zero v = refl
length_repeated (suc k) v = omega (arith, length_repeated k v)

pub each_repeated : (P : Value → Type 0) (k : ℕ) (v : Value) → P v → Each P (repeated k v)
unfolding repeated
each_repeated P zero v h = tt
each_repeated P (suc k) v h = (h, each_repeated P k v h)

pub none_repeated : (P : Value → Type 0) (v : Value) → Each P (repeated 0 v)
unfolding repeated
none_repeated P v = tt

nulls_repeated : (k : ℕ) → count_by is_null (repeated k null) ≡ k
unfolding repeated
nulls_repeated zero = refl
nulls_repeated (suc k) = omega (arith, one_more null (repeated k null), nulls_repeated k)

no_nulls_repeated : (k : ℕ) (v : Value) → is_null v ≡ false
    → count_by is_null (repeated k v) ≡ 0
unfolding repeated
no_nulls_repeated zero v e = refl
no_nulls_repeated (suc k) v e = not_counted v (repeated k v) e ∙ no_nulls_repeated k v e

-- the value of an attained end
abbrev pub end_rows : Option EndView → List Value
end_rows None = []
end_rows (Some e) = cond e.attained (e.value ∷ []) []

length_end : (o : Option EndView) → length (end_rows o) ≡ rows_taken o
length_end None = refl
length_end (Some e) = by e.attained
  where
    by : (b : Bool) → length (cond b (e.value ∷ []) []) ≡ (if b then 1 else 0)
    by true = refl
    by false = refl

nulls_end : (t : LogicalType) (o : Option EndView) → IfSome o (IsEndOf t)
    → count_by is_null (end_rows o) ≡ 0
nulls_end t None h = refl
nulls_end t (Some e) h = by e.attained
  where
    by : (b : Bool) → count_by is_null (cond b (e.value ∷ []) []) ≡ 0
    by true = not_counted e.value [] h.valid
    by false = refl

each_end : (P : Value → Type 0) (o : Option EndView) → IfSome o (λ e. P e.value)
    → Each P (end_rows o)
each_end P None h = tt
each_end P (Some e) h = by e.attained
  where
    by : (b : Bool) → Each P (cond b (e.value ∷ []) [])
    by true = (h, tt)
    by false = tt

there : (e : EndView) → e.attained ≡ true → Contains (end_rows (Some e)) e.value
there e h =
    subst (λ (b : Bool). Contains (cond b (e.value ∷ []) []) e.value) (sym h) (0, omega arith, refl)

-- a value that a row may have
pub record Fits (s : StatisticsView) (v : Value) : Type 0 where
  pub typed : HasType s.dtype v
  pub low : IfSome s.low (λ e. IsBehind is_at_most s.skips_nan e.value v)
  pub high : IfSome s.high (λ e. IsBehind is_at_least s.skips_nan e.value v)

module _ (s : StatisticsView) (c : AreConsistent s) where
  ordered_ends : (low high : Option EndView) → are_in_order low high ≡ true
      → IfSome low (λ a. IfSome high (λ b. is_at_most a.value b.value ≡ true))
  ordered_ends None high h = tt
  ordered_ends (Some a) None h = tt
  ordered_ends (Some a) (Some b) h = h

  low_fits : (low high : Option EndView) → IfSome low (IsEndOf s.dtype)
      → are_in_order low high ≡ true
      → IfSome low (λ a. HasType s.dtype a.value
      × IfSome low (λ e. IsBehind is_at_most s.skips_nan e.value a.value)
      × IfSome high (λ e. IsBehind is_at_least s.skips_nan e.value a.value))
  low_fits None high h o = tt
  low_fits (Some a) None h o = (h.typed, λ b. at_most_itself a.value, tt)
  low_fits (Some a) (Some b) h o = (h.typed, λ q. at_most_itself a.value, λ q. o)

  high_fits : (low high : Option EndView) → IfSome high (IsEndOf s.dtype)
      → are_in_order low high ≡ true
      → IfSome high (λ b. HasType s.dtype b.value
      × IfSome low (λ e. IsBehind is_at_most s.skips_nan e.value b.value)
      × IfSome high (λ e. IsBehind is_at_least s.skips_nan e.value b.value))
  high_fits low None h o = tt
  high_fits None (Some b) h o = (h.typed, tt, λ q. at_most_itself b.value)
  high_fits (Some a) (Some b) h o = (h.typed, λ q. o, λ q. at_most_itself b.value)

  weaker : (P Q : EndView → Type 0) (o : Option EndView) → ((e : EndView) → P e → Q e)
      → IfSome o P → IfSome o Q
  weaker P Q None f h = tt
  weaker P Q (Some e) f h = f e h

  low_end_fits : IfSome s.low (λ e. Fits s e.value)
  low_end_fits =
      weaker _ (λ e. Fits s e.value) s.low
      (λ e h. record { typed = h.0; low = h.1; high = h.2 })
      (low_fits s.low s.high c.low c.ordered)

  high_end_fits : IfSome s.high (λ e. Fits s e.value)
  high_end_fits =
      weaker _ (λ e. Fits s e.value) s.high
      (λ e h. record { typed = h.0; low = h.1; high = h.2 })
      (high_fits s.low s.high c.high c.ordered)

  module _ (x u : Value) (j k : ℕ) where
    abbrev pub tail_rows : List Value
    tail_rows = repeated j null ++ repeated k u

    abbrev pub made_rows : List Value
    made_rows = x ∷ (end_rows s.low ++ (end_rows s.high ++ tail_rows))

    made_count : length made_rows ≡ 1 + (rows_taken s.low + (rows_taken s.high + (j + k)))
    made_count =
        omega (
          arith,
          length_of_both (end_rows s.low) (end_rows s.high ++ tail_rows),
          length_of_both (end_rows s.high) tail_rows,
          length_of_both (repeated j null) (repeated k u),
          length_repeated j null,
          length_repeated k u,
          length_end s.low,
          length_end s.high,
        )

    made_nulls : is_null u ≡ false
        → count_by is_null made_rows ≡ (if is_null x then 1 else 0) + j
    made_nulls e =
        omega (
          arith,
          one_more x (end_rows s.low ++ (end_rows s.high ++ tail_rows)),
          nulls_of_both (end_rows s.low) (end_rows s.high ++ tail_rows),
          nulls_of_both (end_rows s.high) tail_rows,
          nulls_of_both (repeated j null) (repeated k u),
          nulls_repeated j,
          no_nulls_repeated k u e,
          nulls_end s.dtype s.low c.low,
          nulls_end s.dtype s.high c.high,
        )

    made_fit : Fits s x → Fits s u → Each (Fits s) (repeated j null) → Each (Fits s) made_rows
    made_fit fx fu fn = (
      fx,
      each_of_both (Fits s) (end_rows s.low) (end_rows s.high ++ tail_rows)
          (each_end (Fits s) s.low low_end_fits)
          (each_of_both (Fits s) (end_rows s.high) tail_rows
          (each_end (Fits s) s.high high_end_fits)
          (each_of_both (Fits s) (repeated j null) (repeated k u) fn
          (each_repeated (Fits s) k u fu))),
    )

    low_there : (o : Option EndView) → s.low ≡ o
        → IfSome o (λ e. e.attained ≡ true → Contains made_rows e.value)
    low_there None q = tt
    low_there (Some e) q = λ h.
        in_more e.value x (end_rows s.low ++ (end_rows s.high ++ tail_rows))
        (in_first e.value (end_rows s.low) (end_rows s.high ++ tail_rows)
        (subst (λ (o : Option EndView). Contains (end_rows o) e.value) (sym q) (there e h)))

    high_there : (o : Option EndView) → s.high ≡ o
        → IfSome o (λ e. e.attained ≡ true → Contains made_rows e.value)
    high_there None q = tt
    high_there (Some e) q = λ h.
        in_more e.value x (end_rows s.low ++ (end_rows s.high ++ tail_rows))
        (in_second e.value (end_rows s.low) (end_rows s.high ++ tail_rows)
        (in_first e.value (end_rows s.high) tail_rows
        (subst (λ (o : Option EndView). Contains (end_rows o) e.value) (sym q) (there e h))))

    ends_by : (order : Value → Value → Bool) (o : Option EndView)
        → IfSome o (λ e. All (IsBehind order s.skips_nan e.value) made_rows)
        → IfSome o (λ e. e.attained ≡ true → Contains made_rows e.value)
        → IfSome o (IsEnd order s.skips_nan made_rows)
    ends_by order None h g = tt
    ends_by order (Some e) h g = record { outermost = h; found = g }

    all_behind : (Q : EndView → Value → Type 0) (o : Option EndView) (vs : List Value)
        → Each (λ v. IfSome o (λ e. Q e v)) vs → IfSome o (λ e. All (Q e) vs)
    all_behind Q None vs h = tt
    all_behind Q (Some e) vs h = each_all (Q e) vs h

    each_weaker : (P Q : Value → Type 0) (vs : List Value) → ((v : Value) → P v → Q v)
        → Each P vs → Each Q vs
    each_weaker P Q [] f h = tt
    each_weaker P Q (v ∷ vs) f h = (f v h.0, each_weaker P Q vs f h.1)

    pub made_described : (n : ℕ) → IfSome s.rows (λ r. n ≡ r)
        → Fits s x → Fits s u → is_null u ≡ false → Each (Fits s) (repeated j null)
        → 1 + (rows_taken s.low + (rows_taken s.high + (j + k))) ≡ n
        → IfSome s.nulls (λ q. (if is_null x then 1 else 0) + j ≡ q)
        → (col : ColumnView) × IsDescribed n s col × (row col.rows 0 ≡ x)
    made_described n known fx fu valid fn count nulls =
        let each = made_fit fx fu fn in
        let long : length made_rows ≡ n = made_count ∙ count in (
          record { dtype = s.dtype; rows = made_rows; constant = None; form = array },
          record {
            dtype = refl;
            count = long;
            rows =
                record {
                  typed =
                      each_all (HasType s.dtype) made_rows
                      (each_weaker (Fits s) (HasType s.dtype) made_rows (λ v h. h.typed) each);
                  rows = subst (λ (l : ℕ). IfSome s.rows (λ r. l ≡ r)) (sym long) known;
                  nulls =
                      subst (λ (l : ℕ). IfSome s.nulls (λ q. l ≡ q)) (sym (made_nulls valid))
                      nulls;
                  low =
                      ends_by is_at_most s.low
                      (all_behind (λ e. IsBehind is_at_most s.skips_nan e.value) s.low made_rows
                      (each_weaker (Fits s) _ made_rows (λ v h. h.low) each))
                      (low_there s.low refl);
                  high =
                      ends_by is_at_least s.high
                      (all_behind (λ e. IsBehind is_at_least s.skips_nan e.value) s.high made_rows
                      (each_weaker (Fits s) _ made_rows (λ v h. h.high) each))
                      (high_there s.high refl);
                };
          },
          refl,
        )
