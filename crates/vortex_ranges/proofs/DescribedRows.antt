-- What statistics say of the rows of a column admits each row.
use Rattle.std.specs.Prelude.{◌≡◌, ◌&&◌, ◌<◌, ℕ, zero, suc, ◌+◌, List, [], ◌∷◌, Bool, true, false, not}
use Rattle.std.specs.Prelude.{Option, Some, None, IfSome, length, count_by, refl}
use Rattle.std.specs.Prelude.{if◌then◌else◌}
use Rattle.std.proofs.Common.{arith, sym, ap, ◌∙◌, subst}
use Rattle.std.proofs.lemmas.List.Sums.{sum_by-cons}
use Rattle.std.specs.declared.cmp.Ordering.{Ordering}
use Rattle.std.specs.declared.cmp.Ordering.TheVariants.{Less, Equal, Greater}
use Rattle.std.specs.Ordering.{is_gt, is_le}
use Rattle.vortex_types.specs.Values.{Value, null, list, is_null}
use Rattle.vortex_types.specs.Order.{compare_values}
use Rattle.vortex_columns.specs.ColumnView.{ColumnView, row}
use Rattle.vortex_statistics.specs.StatisticsView.{EndView, StatisticsView, is_at_most, is_all_null}
use Rattle.vortex_statistics.specs.Describes.{Describes, IsLowEnd, IsHighEnd, is_bounded}
use Rattle.vortex_statistics.proofs.AllNull.{counted}
use Rattle.vortex_ranges.specs.Ranges.{RangeView, Admits, is_under, is_over, is_inside}
use Rattle.vortex_ranges.specs.Ranges.{may_be}
use Rattle.vortex_ranges.specs.Described.{IsDescribed, end_value, known_end}
use Rattle.vortex_ranges.specs.Described.{has_no_null, described, literal_range}
use Rattle.vortex_ranges.proofs.Tests.{both, negated, either_way}
use Rattle.vortex_ranges.proofs.Above.{inside}
use Rattle.vortex_ranges.proofs.OfType.{typed_admitted}

pub literal-admits : (v : Value) → Admits (literal_range v) v
literal-admits (list vs) = refl
literal-admits v = typed_admitted.itself v

no_more : (o : Ordering) → is_le o ≡ true → is_gt o ≡ false
no_more Less e = refl
no_more Equal e = refl
no_more Greater e = cc

-- a column without nulls has no null row
count_of : (v : Value) (vs : List Value)
    → count_by is_null (v ∷ vs) ≡ (if is_null v then 1 else 0) + count_by is_null vs
count_of v vs = sum_by-cons (λ w. if is_null w then 1 else 0) v vs

some_null : (b : Bool) (k : ℕ) → (if b then 1 else 0) + k ≡ 0 → (b ≡ false) × (k ≡ 0)
some_null true k e = absurd (omega (arith, e))
some_null false k e = (refl, omega (arith, e))

never_null : (vs : List Value) (i : ℕ) → count_by is_null vs ≡ 0 → i < length vs
    → is_null (row vs i) ≡ false
never_null [] i e h = absurd (omega (arith, h))
never_null (v ∷ vs) zero e h = (some_null (is_null v) _ (sym (count_of v vs) ∙ e)).0
never_null (v ∷ vs) (suc i) e h =
    never_null vs i (some_null (is_null v) _ (sym (count_of v vs) ∙ e)).1 (omega (arith, h))

module _ (s : StatisticsView) (vs : List Value) (i n : ℕ) (within : i < length vs)
    (count : length vs ≡ n) (d : Describes s vs) where
  null_free : (k : Option ℕ) → IfSome k (λ k. count_by is_null vs ≡ k) → has_no_null k ≡ true
      → is_null (row vs i) ≡ false
  null_free None told e = cc
  null_free (Some k) told e =
      let none : k ≡ 0 = grind (arith, e) in never_null vs i (told ∙ none) within

  may_be_null : is_null (row vs i) ≡ true → not (has_no_null s.nulls) ≡ true
  may_be_null e =
      either_way (has_no_null s.nulls)
      (λ y. let never : is_null (row vs i) ≡ false = null_free s.nulls d.nulls y in cc)
      (λ y. negated (has_no_null s.nulls) y)

  may_be_value : is_null (row vs i) ≡ false → not (is_all_null (Some n) s.nulls) ≡ true
  may_be_value e =
      either_way (is_all_null (Some n) s.nulls)
      (λ y.
      let each = counted (Some n) s.nulls vs y count d.nulls in
      let always : is_null (row vs i) ≡ true = each.each i null within in
      cc)
      (λ y. negated (is_all_null (Some n) s.nulls) y)

  bounded : is_null (row vs i) ≡ false → is_bounded s.skips_nan (row vs i) ≡ true
  bounded e = by (is_null (row vs i)) e
    where
      by : (b : Bool) → b ≡ false → (not b && true) ≡ true
      by true p = cc
      by false p = refl

  not_below : (e : Option EndView) → IfSome e (IsLowEnd s.skips_nan vs)
      → is_null (row vs i) ≡ false → is_under (known_end e) (row vs i) ≡ false
  not_below None h v = refl
  not_below (Some e) h v = by e.value (h.outermost i null within (bounded v))
    where
      by : (w : Value) → is_at_most w (row vs i) ≡ true
          → is_under (end_value w) (row vs i) ≡ false
      by null p = refl
      by (list ws) p = refl
      by w p = no_more (compare_values w (row vs i)) p

  not_beyond : (e : Option EndView) → IfSome e (IsHighEnd s.skips_nan vs)
      → is_null (row vs i) ≡ false → is_over (known_end e) (row vs i) ≡ false
  not_beyond None h v = refl
  not_beyond (Some e) h v = by e.value (h.outermost i null within (bounded v))
    where
      by : (w : Value) → is_at_most (row vs i) w ≡ true
          → is_over (end_value w) (row vs i) ≡ false
      by null p = refl
      by (list ws) p = refl
      by w p = no_more (compare_values (row vs i) w) p

  abbrev told : RangeView
  told = record {
    may_fault = false;
    may_be_null = not (has_no_null s.nulls);
    may_be_value = not (is_all_null (Some n) s.nulls);
    low = known_end s.low;
    high = known_end s.high;
  }

  told-admits : Admits told (row vs i)
  told-admits = by (row vs i) refl
    where
      inner : is_null (row vs i) ≡ false → may_be told (row vs i) ≡ true
      inner e =
          both (not (is_all_null (Some n) s.nulls))
          (is_inside (known_end s.low) (known_end s.high) (row vs i)) (may_be_value e)
          (inside (known_end s.low) (known_end s.high) (row vs i) (not_below s.low d.low e)
          (not_beyond s.high d.high e))

      by : (v : Value) → row vs i ≡ v → Admits told v
      by null e = may_be_null (ap is_null e)
      by v e = subst (λ (w : Value). may_be told w ≡ true) e (inner (ap is_null e))

  pub row-admits : Admits (described n s) (row vs i)
  row-admits =
      typed_admitted.kept s.dtype told (row vs i) (d.typed i null within) told-admits

-- so of each row of each described column
pub described-admits : (n : ℕ) (s : StatisticsView) (c : ColumnView) → IsDescribed n s c
    → (i : ℕ) → i < n → Admits (described n s) (row c.rows i)
described-admits n s c d i h =
    row-admits s c.rows i n (omega (arith, h, d.count)) d.count d.rows
