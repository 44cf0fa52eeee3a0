-- Each value that statistics leave open is the first row of some column that they describe.
use Rattle.std.specs.Prelude.{◌≡◌, ℕ, zero, suc, ◌+◌, ◌-◌, ◌<◌, []}
use Rattle.std.specs.Prelude.{Bool, true, false, not, Option, Some, None, IfSome, MatchOption, refl}
use Rattle.std.specs.Prelude.{nat_eq, nat_le, if◌then◌else◌}
use Rattle.std.proofs.Common.{arith, sym, ap, ◌∙◌, subst, inl, inr}
use Rattle.std.specs.declared.cmp.Ordering.{Ordering}
use Rattle.std.specs.declared.cmp.Ordering.TheVariants.{Less, Equal, Greater}
use Rattle.std.specs.Ordering.{is_gt, is_le}
use Rattle.std.proofs.lemmas.Int.{ints}
use Rattle.std.proofs.lemmas.Bool.Decides.{nat_tests}
use Rattle.std.proofs.lemmas.Str.{IsUtf8-nil}
use Rattle.vortex_types.specs.declared.dtype.PType.{PType}
use Rattle.vortex_types.specs.declared.dtype.PType.TheVariants.{I8, I16, I32, I64, U8, U16, U32}
use Rattle.vortex_types.specs.declared.dtype.PType.TheVariants.{U64}
use Rattle.vortex_types.specs.LogicalTypes.{LogicalType, null_type, bool_type, integer_type}
use Rattle.vortex_types.specs.LogicalTypes.{text_type, bytes_type, struct_type, list_type}
use Rattle.vortex_types.specs.LogicalTypes.{fixed_size_list_type, map_type, is_nullable}
use Rattle.vortex_types.specs.Values.{Value, null, truth, number, text, bytes, list, is_null}
use Rattle.vortex_types.specs.Typing.{HasType, FitsPType, least_of, greatest_of}
use Rattle.vortex_types.specs.Order.{compare_values}
use Rattle.vortex_types.proofs.NullValues.{null_is}
use Rattle.vortex_columns.specs.ColumnView.{ColumnView, row, is_bytes_like}
use Rattle.vortex_statistics.specs.StatisticsView.{EndView, StatisticsView, IsEndOf, AreConsistent}
use Rattle.vortex_statistics.specs.StatisticsView.{is_at_most, are_in_order, counts_agree}
use Rattle.vortex_statistics.specs.StatisticsView.{is_all_null}
use Rattle.vortex_statistics.specs.Describes.{IsBehind, is_at_least}
use Rattle.vortex_statistics.specs.Extremes.{is_measured}
use Rattle.vortex_statistics.proofs.ValueOrder.{le_of_gt}
use Rattle.vortex_statistics.proofs.AllNull.{counted}
use Rattle.vortex_ranges.specs.Ranges.{RangeView, Admits, is_above, is_under, is_over, may_be}
use Rattle.vortex_ranges.specs.TypeRanges.{least, greatest, known_or, of_type}
use Rattle.vortex_ranges.specs.Described.{IsDescribed, end_value, known_end, has_no_null, described}
use Rattle.vortex_ranges.proofs.Tests.{first, second, refuted, either_way}
use Rattle.vortex_ranges.proofs.Above.{not_under, not_over, lies_inside}
use Rattle.vortex_ranges.proofs.OfType.{typed_admitted}
use Rattle.vortex_pruning.specs.Exact.{IsValueOf, HasEnds}
use Rattle.vortex_pruning.specs.Sharpness.{rows_taken, known_nulls, HasRoom}
use Rattle.vortex_pruning.proofs.OrderedPairs.{low_inside}
use Rattle.vortex_pruning.proofs.MadeRows.{Each, Fits, repeated, each_repeated, none_repeated}
use Rattle.vortex_pruning.proofs.MadeRows.{made_described}

pub as_value : (r : RangeView) (v : Value) → is_null v ≡ false → Admits r v → may_be r v ≡ true
as_value r null e h = cc
as_value r (truth b) e h = h
as_value r (number z) e h = h
as_value r (text bs) e h = h
as_value r (bytes bs) e h = h
as_value r (list vs) e h = h

in_type : (t : LogicalType) (v : Value) → IsValueOf t v → may_be (of_type false t) v ≡ true
in_type t v h =
    as_value (of_type false t) v h.valid (typed_admitted.typed false t v h.typed)

above_least : (t : LogicalType) (v : Value) → IsValueOf t v → is_under (least t) v ≡ false
above_least t v h =
    not_under (least t) (greatest t) v (lies_inside (of_type false t) v (in_type t v h))

below_greatest : (t : LogicalType) (v : Value) → IsValueOf t v → is_over (greatest t) v ≡ false
below_greatest t v h =
    not_over (least t) (greatest t) v (lies_inside (of_type false t) v (in_type t v h))

-- the ends of the types
least_fits : (p : PType) → FitsPType p (least_of p)
least_fits I8 = (omega (arith, ints), omega (arith, ints))
least_fits I16 = (omega (arith, ints), omega (arith, ints))
least_fits I32 = (omega (arith, ints), omega (arith, ints))
least_fits I64 = (omega (arith, ints), omega (arith, ints))
least_fits U8 = (omega (arith, ints), omega (arith, ints))
least_fits U16 = (omega (arith, ints), omega (arith, ints))
least_fits U32 = (omega (arith, ints), omega (arith, ints))
least_fits U64 = (omega (arith, ints), omega (arith, ints))

greatest_fits : (p : PType) → FitsPType p (greatest_of p)
greatest_fits I8 = (omega (arith, ints), omega (arith, ints))
greatest_fits I16 = (omega (arith, ints), omega (arith, ints))
greatest_fits I32 = (omega (arith, ints), omega (arith, ints))
greatest_fits I64 = (omega (arith, ints), omega (arith, ints))
greatest_fits U8 = (omega (arith, ints), omega (arith, ints))
greatest_fits U16 = (omega (arith, ints), omega (arith, ints))
greatest_fits U32 = (omega (arith, ints), omega (arith, ints))
greatest_fits U64 = (omega (arith, ints), omega (arith, ints))

-- an end of such a type is one that a range can have
kept_end : (t : LogicalType) (v : Value) → is_measured t ≡ true → IsValueOf t v
    → end_value v ≡ Some v
kept_end t null e h = let never : true ≡ false = h.valid in cc
kept_end t (truth b) e h = refl
kept_end t (number z) e h = refl
kept_end t (text bs) e h = refl
kept_end t (bytes bs) e h = refl
kept_end (bool_type n) (list vs) e h = absurd h.typed
kept_end (integer_type p n) (list vs) e h = absurd h.typed
kept_end (text_type n) (list vs) e h = absurd h.typed
kept_end (bytes_type n) (list vs) e h = absurd h.typed
kept_end t (list vs) e h = cc

record IsLow (t : LogicalType) (o : Option Value) : Type 0 where
  pub value : Value
  pub is : o ≡ Some value
  pub there : IsValueOf t value

of_end : (t : LogicalType) (e : EndView) → IsEndOf t e → IsValueOf t e.value
of_end t e h = record { typed = h.typed; valid = h.valid }

module _ (t : LogicalType) (measured : is_measured t ≡ true) where
  least_there : (k : LogicalType) → is_measured k ≡ true → IsLow k (least k)
  least_there (bool_type n) e =
      record { value = truth false; is = refl; there = record { typed = tt; valid = refl } }
  least_there (integer_type p n) e =
      record {
        value = number (least_of p);
        is = refl;
        there = record { typed = least_fits p; valid = refl };
      }
  least_there (text_type n) e =
      record { value = text []; is = refl; there = record { typed = IsUtf8-nil; valid = refl } }
  least_there (bytes_type n) e =
      record {
        value = bytes [];
        is = refl;
        there = record { typed = λ k d lt. absurd (omega (arith, lt)); valid = refl };
      }
  least_there k e = cc

  greatest_there : (k : LogicalType) → is_measured k ≡ true
      → MatchOption (greatest k) (is_bytes_like k ≡ true) (IsValueOf k)
  greatest_there (bool_type n) e = record { typed = tt; valid = refl }
  greatest_there (integer_type p n) e = record { typed = greatest_fits p; valid = refl }
  greatest_there (text_type n) e = refl
  greatest_there (bytes_type n) e = refl
  greatest_there k e = cc

  known_is : (e : EndView) (o : Option Value) → IsEndOf t e
      → known_or (known_end (Some e)) o ≡ Some e.value
  known_is e o h =
      ap (λ (q : Option Value). known_or q o) (kept_end t e.value measured (of_end t e h))

  abbrev low_of : Option EndView → Option Value
  low_of lo = known_or (known_end lo) (least t)

  abbrev high_of : Option EndView → Option Value
  high_of hi = known_or (known_end hi) (greatest t)

  low_there : (lo : Option EndView) → IfSome lo (IsEndOf t) → IsLow t (low_of lo)
  low_there None h = least_there t measured
  low_there (Some e) h =
      record { value = e.value; is = known_is e (least t) h; there = of_end t e h }

  high_there : (hi : Option EndView) → IfSome hi (IsEndOf t)
      → MatchOption (high_of hi) (is_bytes_like t ≡ true) (IsValueOf t)
  high_there None h = greatest_there t measured
  high_there (Some e) h =
      subst (λ (o : Option Value). MatchOption o (is_bytes_like t ≡ true) (IsValueOf t))
      (sym (known_is e (greatest t) h)) (of_end t e h)

  not_above : (v w : Value) → is_at_most v w ≡ true → is_above v w ≡ false
  not_above v w h = by (compare_values v w) h
    where
      by : (o : Ordering) → is_le o ≡ true → is_gt o ≡ false
      by Less g = refl
      by Equal g = refl
      by Greater g = cc

  in_order : (lo hi : Option EndView) → IfSome lo (IsEndOf t) → IfSome hi (IsEndOf t)
      → are_in_order lo hi ≡ true → (l : Value) → low_of lo ≡ Some l → IsValueOf t l
      → is_over (high_of hi) l ≡ false
  in_order lo None a b o l q h = below_greatest t l h
  in_order None (Some e) a b o l q h =
      subst (λ (x : Option Value). is_over x l ≡ false) (sym (known_is e (greatest t) b))
      (subst (λ (x : Option Value). is_under x e.value ≡ false) q
      (above_least t e.value (of_end t e b)))
  in_order (Some d) (Some e) a b o l q h =
      subst (λ (x : Option Value). is_over x l ≡ false) (sym (known_is e (greatest t) b))
      (subst (λ (x : Option Value). is_under x e.value ≡ false)
      (sym (known_is d (least t) a) ∙ q) (not_above d.value e.value o))

module _ (n : ℕ) (s : StatisticsView) (c : AreConsistent s)
    (measured : is_measured s.dtype ≡ true) where
  pub described_ends : HasEnds s.dtype (described n s)
  described_ends =
      let l = low_there s.dtype measured s.low c.low in
      record {
        low = l.value;
        is_low = l.is;
        low_value = l.there;
        low_inside =
            in_order s.dtype measured s.low s.high c.low c.high c.ordered l.value l.is l.there;
        high = high_there s.dtype measured s.high c.high;
      }

  -- what the range leaves open fits
  within_low : (lo : Option EndView) → IfSome lo (IsEndOf s.dtype) → (v : Value)
      → is_under (low_of s.dtype measured lo) v ≡ false
      → IfSome lo (λ e. IsBehind is_at_most s.skips_nan e.value v)
  within_low None h v g = tt
  within_low (Some e) h v g = λ q.
      le_of_gt (compare_values e.value v)
      (subst (λ (o : Option Value). is_under o v ≡ false) (known_is s.dtype measured e _ h) g)

  within_high : (hi : Option EndView) → IfSome hi (IsEndOf s.dtype) → (v : Value)
      → is_over (high_of s.dtype measured hi) v ≡ false
      → IfSome hi (λ e. IsBehind is_at_least s.skips_nan e.value v)
  within_high None h v g = tt
  within_high (Some e) h v g = λ q.
      le_of_gt (compare_values v e.value)
      (subst (λ (o : Option Value). is_over o v ≡ false) (known_is s.dtype measured e _ h) g)

  value_fits : (v : Value) → IsValueOf s.dtype v → may_be (described n s) v ≡ true → Fits s v
  value_fits v h g =
      let r = described n s in
      let inner = lies_inside r v g in
      record {
        typed = h.typed;
        low = within_low s.low c.low v (not_under r.low r.high v inner);
        high = within_high s.high c.high v (not_over r.low r.high v inner);
      }

  nullable_fits : (t : LogicalType) → is_nullable t ≡ true → HasType t null
  nullable_fits null_type e = refl
  nullable_fits (bool_type b) e = e
  nullable_fits (integer_type p b) e = e
  nullable_fits (text_type b) e = e
  nullable_fits (bytes_type b) e = e
  nullable_fits (struct_type fs b) e = e
  nullable_fits (list_type t b) e = e
  nullable_fits (fixed_size_list_type t k b) e = e
  nullable_fits (map_type k v b) e = e

  never_behind : (order : Value → Value → Bool) (o : Option EndView)
      → IfSome o (λ e. IsBehind order s.skips_nan e.value null)
  never_behind order None = tt
  never_behind order (Some e) = λ q. cc

  null_fits : is_nullable s.dtype ≡ true → Fits s null
  null_fits e =
      record {
        typed = nullable_fits s.dtype e;
        low = never_behind is_at_most s.low;
        high = never_behind is_at_least s.high;
      }

  -- known nulls stand in a column of a type that has null
  nullable_by : (b : Bool) (rows : Option ℕ) (k : ℕ) → counts_agree b rows (Some (suc k)) ≡ true
      → b ≡ true
  nullable_by true rows k h = refl
  nullable_by false None k h = let never : nat_eq (suc k) 0 ≡ true = h in grind (arith, nat_tests)
  nullable_by false (Some r) k h =
      let never : nat_eq (suc k) 0 ≡ true = first (nat_eq (suc k) 0) (nat_le (suc k) r) h in
      grind (arith, nat_tests)

  nulls_fit : (o : Option ℕ) → counts_agree (is_nullable s.dtype) s.rows o ≡ true
      → Each (Fits s) (repeated (known_nulls o) null)
  nulls_fit None h = none_repeated (Fits s) null
  nulls_fit (Some zero) h = none_repeated (Fits s) null
  nulls_fit (Some (suc k)) h =
      each_repeated (Fits s) (suc k) null
      (null_fits (nullable_by (is_nullable s.dtype) s.rows k h))

  module _ (base : ColumnView) (d : IsDescribed n s base) (some : 0 < n) (room : HasRoom n s) where
    known : IfSome s.rows (λ r. n ≡ r)
    known = subst (λ (l : ℕ). IfSome s.rows (λ r. l ≡ r)) d.count d.rows.rows

    abbrev IsFirst : Value → Type 0
    IsFirst v = (col : ColumnView) × IsDescribed n s col × (row col.rows 0 ≡ v)

    abbrev taken : ℕ
    taken = rows_taken s.low + rows_taken s.high

    told : (o : Option ℕ) → IfSome o (λ q. 0 + known_nulls o ≡ q)
    told None = tt
    told (Some k) = omega arith

    roomy_value : (v : Value) → IsValueOf s.dtype v → may_be (described n s) v ≡ true
        → known_nulls s.nulls + taken < n → IsFirst v
    roomy_value v h g lt =
        let j = known_nulls s.nulls in
        let k = n - (1 + (j + taken)) in
        let fits = value_fits v h g in
        made_described s c v v j k n known fits fits h.valid (nulls_fit s.nulls c.counts)
        (omega (arith, lt))
        (subst (λ (b : Bool). IfSome s.nulls (λ q. (if b then 1 else 0) + j ≡ q)) (sym h.valid)
        (told s.nulls))

    pub first_value : (v : Value) → IsValueOf s.dtype v → may_be (described n s) v ≡ true
        → IsFirst v
    first_value v h g =
        let open_ : not (is_all_null (Some n) s.nulls) ≡ true =
        first (not (is_all_null (Some n) s.nulls)) _ g in
        elim room [
          | inl all ↦ let never : true ≡ false =
              sym all ∙ refuted (is_all_null (Some n) s.nulls) open_ in cc
          | inr lt ↦ roomy_value v h g lt
        ]

    -- null, where each row is
    all_null : is_all_null (Some n) s.nulls ≡ true → IsFirst null
    all_null e =
        let each = counted (Some n) s.nulls base.rows e d.count d.rows.nulls in (
          base,
          d,
          null_is (row base.rows 0) (each.each 0 null (omega (arith, some, d.count))),
        )

    one_null : (o : Option ℕ) → not (has_no_null o) ≡ true → known_nulls o + taken < n
        → (j : ℕ) × (k : ℕ) × (1 + (rows_taken s.low + (rows_taken s.high + (j + k))) ≡ n)
        × IfSome o (λ q. 1 + j ≡ q)
    one_null None e lt = (n - (1 + taken), 0, omega (arith, lt), tt)
    one_null (Some zero) e lt = cc
    one_null (Some (suc q)) e lt =
        (q, n - (suc q + taken), omega (arith, lt), omega arith)

    roomy_null : is_nullable s.dtype ≡ true → not (has_no_null s.nulls) ≡ true
        → is_all_null (Some n) s.nulls ≡ false → known_nulls s.nulls + taken < n → IsFirst null
    roomy_null nullable e open_ lt =
        let counts = one_null s.nulls e lt in
        let ends = described_ends in
        let inner =
        low_inside s.dtype (described n s) (ap not open_) ends in
        made_described s c null ends.low counts.0 counts.1 n known (null_fits nullable)
        (value_fits ends.low ends.low_value inner) ends.low_value.valid
        (each_repeated (Fits s) counts.0 null (null_fits nullable)) counts.2 counts.3

    pub first_null : (described n s).may_be_null ≡ true → IsFirst null
    first_null e =
        let may = first (not (has_no_null s.nulls)) (is_nullable s.dtype) e in
        let nullable = second (not (has_no_null s.nulls)) (is_nullable s.dtype) e in
        elim room [
          | inl all ↦ all_null all
          | inr lt ↦ either_way (is_all_null (Some n) s.nulls) all_null
              (λ open_. roomy_null nullable may open_ lt)
        ]
