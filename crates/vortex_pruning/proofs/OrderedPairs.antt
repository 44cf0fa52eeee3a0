-- Values inside the ends of two ranges, in an order that the ranges leave open.
use Rattle.std.specs.Prelude.{◌≡◌, ◌&&◌, ◌||◌, ◌⊎◌, ◌++◌, ℕ, zero, suc, ◌<◌, List, [], ◌∷◌}
use Rattle.std.specs.Prelude.{Bool, true, false, not, All, IsUtf8, IsAscii}
use Rattle.std.specs.Prelude.{Option, Some, None, MatchOption, refl}
use Rattle.std.proofs.Common.{arith, sym, ap, ◌∙◌, subst, inl, inr}
use Rattle.std.specs.declared.cmp.Ordering.{Ordering}
use Rattle.std.specs.declared.cmp.Ordering.TheVariants.{Less, Equal, Greater}
use Rattle.std.specs.Ordering.{is_gt, nat_cmp, ordering_then, ordering_reverse}
use Rattle.std.specs.Cmp.{nat_cmp_total}
use Rattle.std.specs.Cmp.Lexicographic.{slice_cmp}
use Rattle.std.proofs.lemmas.Cmp.{tied_itself}
use Rattle.std.proofs.lemmas.Str.{IsUtf8-append, IsUtf8-from_ascii}
use Rattle.vortex_types.specs.LogicalTypes.{LogicalType, bool_type, integer_type}
use Rattle.vortex_types.specs.LogicalTypes.{text_type, bytes_type}
use Rattle.vortex_types.specs.Values.{Value, null, truth, number, text, bytes, list, is_null}
use Rattle.vortex_types.specs.declared.dtype.PType.{PType}
use Rattle.vortex_types.specs.Typing.{HasType, OrNull, IsTruth, IsNumber, IsText, IsBytes, FitsPType}
use Rattle.vortex_types.specs.Order.{compare_values}
use Rattle.vortex_types.specs.OrderLaws.{compare_values_total, equals_are_same}
use Rattle.vortex_types.specs.TypeEquality.{alike_types, ptype_eq, ptype_yes}
use Rattle.vortex_columns.specs.ColumnView.{is_bytes_like}
use Rattle.vortex_statistics.specs.Extremes.{is_measured}
use Rattle.vortex_ranges.specs.Ranges.{RangeView, is_above, is_under, is_over, is_inside, may_be}
use Rattle.vortex_ranges.specs.Comparing.{are_apart, leave_room, may_compare, may_pass}
use Rattle.vortex_ranges.proofs.Tests.{both, first, second, refuted, either_way}
use Rattle.vortex_ranges.proofs.Above.{chained, not_itself, inside}
use Rattle.vortex_pruning.specs.Exact.{IsValueOf, HasEnds}

pub above_is_greater : (v w : Value) → is_above v w ≡ true → compare_values v w ≡ Greater
above_is_greater v w e = by (compare_values v w) refl
  where
    by : (o : Ordering) → compare_values v w ≡ o → compare_values v w ≡ Greater
    by Less h = let never : is_above v w ≡ false = ap is_gt h in cc
    by Equal h = let never : is_above v w ≡ false = ap is_gt h in cc
    by Greater h = h

pub above_is_less : (v w : Value) → is_above w v ≡ true → compare_values v w ≡ Less
above_is_less v w e =
    compare_values_total.antisymm v w ∙ ap ordering_reverse (above_is_greater w v e)

above_back : (v w : Value) → is_above v w ≡ true → is_above w v ≡ false
above_back v w e = ap is_gt (above_is_less w v e)

-- a text or bytes that are above others
longer : (bs : List ℕ) → is_gt (slice_cmp nat_cmp (bs ++ 0 ∷ []) bs) ≡ true
longer [] = refl
longer (b ∷ bs) =
    ap (λ o. is_gt (ordering_then o (slice_cmp nat_cmp (bs ++ 0 ∷ []) bs)))
    (tied_itself nat_cmp_total b)
    ∙ longer bs

zero_is_ascii : IsAscii (0 ∷ [])
zero_is_ascii zero = omega arith
zero_is_ascii (suc i) = omega arith

zero_is_utf8 : IsUtf8 (0 ∷ [])
zero_is_utf8 = IsUtf8-from_ascii (0 ∷ []) zero_is_ascii

more_bytes : (bs : List ℕ) → All (λ b. b < 256) bs → All (λ b. b < 256) (bs ++ 0 ∷ [])
more_bytes [] h zero d lt = omega arith
more_bytes [] h (suc k) d lt = absurd (omega (arith, lt))
more_bytes (b ∷ bs) h zero d lt = h zero d (omega arith)
more_bytes (b ∷ bs) h (suc k) d lt =
    more_bytes bs (λ j e l. h (suc j) e (omega (arith, l))) k d (omega (arith, lt))

record IsHigher (k : LogicalType) (v : Value) : Type 0 where
  pub value : Value
  pub there : IsValueOf k value
  pub over : is_above value v ≡ true

higher : (k : LogicalType) (v : Value) → is_bytes_like k ≡ true → IsValueOf k v → IsHigher k v
higher (text_type n) (text bs) e h =
    record {
      value = text (bs ++ 0 ∷ []);
      there = record { typed = IsUtf8-append bs (0 ∷ []) h.typed zero_is_utf8; valid = refl };
      over = longer bs;
    }
higher (bytes_type n) (bytes bs) e h =
    record {
      value = bytes (bs ++ 0 ∷ []);
      there = record { typed = more_bytes bs h.typed; valid = refl };
      over = longer bs;
    }
higher (text_type n) null e h = let never : true ≡ false = h.valid in cc
higher (text_type n) (truth b) e h = absurd h.typed
higher (text_type n) (number z) e h = absurd h.typed
higher (text_type n) (bytes bs) e h = absurd h.typed
higher (text_type n) (list vs) e h = absurd h.typed
higher (bytes_type n) null e h = let never : true ≡ false = h.valid in cc
higher (bytes_type n) (truth b) e h = absurd h.typed
higher (bytes_type n) (number z) e h = absurd h.typed
higher (bytes_type n) (text bs) e h = absurd h.typed
higher (bytes_type n) (list vs) e h = absurd h.typed
higher k v e h = cc

-- types that agree apart from nullability have the same values
other_null : (n m : Bool) (P : Value → Type 0) (v : Value) → OrNull n P v → is_null v ≡ false
    → OrNull m P v
other_null n m P null h e = cc
other_null n m P (truth b) h e = h
other_null n m P (number z) h e = h
other_null n m P (text bs) h e = h
other_null n m P (bytes bs) h e = h
other_null n m P (list vs) h e = h

pub same_values : (k l : LogicalType) (v : Value) → is_measured k ≡ true → alike_types k l ≡ true
    → IsValueOf k v → IsValueOf l v
same_values (bool_type n) (bool_type m) v e a h =
    record { typed = other_null n m IsTruth v h.typed h.valid; valid = h.valid }
same_values (integer_type p n) (integer_type q m) v e a h =
    let same : p ≡ q = ptype_yes p q (first (ptype_eq p q) true a) in
    record {
      typed =
          other_null n m (IsNumber (FitsPType q)) v
          (subst (λ (x : PType). HasType (integer_type x n) v) same h.typed) h.valid;
      valid = h.valid;
    }
same_values (text_type n) (text_type m) v e a h =
    record { typed = other_null n m IsText v h.typed h.valid; valid = h.valid }
same_values (bytes_type n) (bytes_type m) v e a h =
    record { typed = other_null n m IsBytes v h.typed h.valid; valid = h.valid }
same_values k l v e a h = cc

-- the low end of a range, and its high one, are inside
pub low_inside : (k : LogicalType) (r : RangeView) → r.may_be_value ≡ true → (e : HasEnds k r)
    → may_be r e.low ≡ true
low_inside k r there e =
    both r.may_be_value (is_inside r.low r.high e.low) there
    (inside r.low r.high e.low
    (subst (λ (o : Option Value). is_under o e.low ≡ false) (sym e.is_low) (not_itself e.low))
    e.low_inside)

record IsHighEnd (k : LogicalType) (r : RangeView) : Type 0 where
  pub end : Value
  pub is_high : r.high ≡ Some end
  pub there : IsValueOf k end
  pub inside : may_be r end ≡ true

high_end : (k : LogicalType) (r : RangeView) → r.may_be_value ≡ true → HasEnds k r
    → IsHighEnd k r ⊎ ((r.high ≡ None) × (is_bytes_like k ≡ true))
high_end k r there e = by r.high refl e.high
  where
    by : (o : Option Value) → r.high ≡ o
        → MatchOption o (is_bytes_like k ≡ true) (IsValueOf k)
        → IsHighEnd k r ⊎ ((r.high ≡ None) × (is_bytes_like k ≡ true))
    by None q h = inr (q, h)
    by (Some x) q h =
        inl
        (record {
          end = x;
          is_high = q;
          there = h;
          inside =
              both r.may_be_value (is_inside r.low r.high x) there
              (inside r.low r.high x
              (subst (λ (o : Option Value). is_under o x ≡ false) (sym e.is_low)
              (subst (λ (o : Option Value). is_over o e.low ≡ false) q e.low_inside))
              (subst (λ (o : Option Value). is_over o x ≡ false) (sym q) (not_itself x)));
        })

-- two values of two ranges in that order
pub record IsPair (k l : LogicalType) (r s : RangeView) (o : Ordering) : Type 0 where
  pub left : Value
  pub right : Value
  pub left_there : IsValueOf k left
  pub right_there : IsValueOf l right
  pub left_inside : may_be r left ≡ true
  pub right_inside : may_be s right ≡ true
  pub order : compare_values left right ≡ o

-- a value of the second range above the low end of the first
record IsOver (l : LogicalType) (s : RangeView) (v : Value) : Type 0 where
  pub value : Value
  pub there : IsValueOf l value
  pub inside : may_be s value ≡ true
  pub over : is_above value v ≡ true

module _ (l : LogicalType) (s : RangeView) (there : s.may_be_value ≡ true) (e : HasEnds l s)
    (v : Value) (typed : IsValueOf l v) (room : leave_room (Some v) s.high ≡ true) where
  over_low : s.high ≡ None → is_bytes_like l ≡ true → is_above e.low v ≡ false → IsOver l s v
  over_low none like not_over =
      let h = higher l v like typed in
      record {
        value = h.value;
        there = h.there;
        inside =
            both s.may_be_value (is_inside s.low s.high h.value) there
            (inside s.low s.high h.value
            (subst (λ (o : Option Value). is_under o h.value ≡ false) (sym e.is_low)
            (chained e.low v h.value not_over (above_back h.value v h.over)))
            (subst (λ (o : Option Value). is_over o h.value ≡ false) (sym none) refl));
        over = h.over;
      }

  some_over : IsOver l s v
  some_over =
      elim (high_end l s there e) [
        | inl h ↦ record {
          value = h.end;
          there = h.there;
          inside = h.inside;
          over = subst (λ (o : Option Value). leave_room (Some v) o ≡ true) h.is_high room;
        }
        | inr h ↦ either_way (is_above e.low v)
            (λ y.
            record {
              value = e.low;
              there = e.low_value;
              inside = low_inside l s there e;
              over = y;
            })
            (λ n. over_low h.0 h.1 n)
      ]

module _ (k l : LogicalType) (r s : RangeView) (there : r.may_be_value ≡ true)
    (others : s.may_be_value ≡ true) (e : HasEnds k r) (f : HasEnds l s) where
  abbrev Turns : LogicalType → LogicalType → Type 0
  Turns a b = (v : Value) → IsValueOf a v → IsValueOf b v

  pub less : Turns k l → leave_room r.low s.high ≡ true → IsPair k l r s Less
  less turn room =
      let h =
      some_over l s others f e.low (turn e.low e.low_value)
      (subst (λ (o : Option Value). leave_room o s.high ≡ true) e.is_low room) in
      record {
        left = e.low;
        right = h.value;
        left_there = e.low_value;
        right_there = h.there;
        left_inside = low_inside k r there e;
        right_inside = h.inside;
        order = above_is_less e.low h.value h.over;
      }

  pub greater : Turns l k → leave_room s.low r.high ≡ true → IsPair k l r s Greater
  greater turn room =
      let h =
      some_over k r there e f.low (turn f.low f.low_value)
      (subst (λ (o : Option Value). leave_room o r.high ≡ true) f.is_low room) in
      record {
        left = h.value;
        right = f.low;
        left_there = h.there;
        right_there = f.low_value;
        left_inside = h.inside;
        right_inside = low_inside l s others f;
        order = above_is_greater h.value f.low h.over;
      }

  -- the higher of the two low ends is in both
  not_over_by : (v : Value) (o : Option Value) → are_apart (Some v) o ≡ false → is_over o v ≡ false
  not_over_by v None h = refl
  not_over_by v (Some h) g = g

  of_first : Turns k l → not (are_apart r.low s.high) ≡ true → is_above f.low e.low ≡ false
      → IsPair k l r s Equal
  of_first turn apart under =
      record {
        left = e.low;
        right = e.low;
        left_there = e.low_value;
        right_there = turn e.low e.low_value;
        left_inside = low_inside k r there e;
        right_inside =
            both s.may_be_value (is_inside s.low s.high e.low) others
            (inside s.low s.high e.low
            (subst (λ (o : Option Value). is_under o e.low ≡ false) (sym f.is_low) under)
            (not_over_by e.low s.high
            (subst (λ (o : Option Value). are_apart o s.high ≡ false) e.is_low
            (refuted (are_apart r.low s.high) apart))));
        order = equals_are_same.equal e.low;
      }

  of_second : Turns l k → not (are_apart s.low r.high) ≡ true → is_above e.low f.low ≡ false
      → IsPair k l r s Equal
  of_second turn apart under =
      record {
        left = f.low;
        right = f.low;
        left_there = turn f.low f.low_value;
        right_there = f.low_value;
        left_inside =
            both r.may_be_value (is_inside r.low r.high f.low) there
            (inside r.low r.high f.low
            (subst (λ (o : Option Value). is_under o f.low ≡ false) (sym e.is_low) under)
            (not_over_by f.low r.high
            (subst (λ (o : Option Value). are_apart o r.high ≡ false) f.is_low
            (refuted (are_apart s.low r.high) apart))));
        right_inside = low_inside l s others f;
        order = equals_are_same.equal f.low;
      }

  pub pair : Turns k l → Turns l k → (o : Ordering) → may_compare r s o ≡ true
      → IsPair k l r s o
  pair turn back Less h = less turn h
  pair turn back Greater h = greater back h
  pair turn back Equal h =
      either_way (is_above f.low e.low)
      (λ y.
      of_second back (second (not (are_apart r.low s.high)) (not (are_apart s.low r.high)) h)
      (above_back f.low e.low y))
      (λ n. of_first turn (first (not (are_apart r.low s.high)) (not (are_apart s.low r.high)) h) n)

-- an order that passes a test, where some may
pub one_of : (a b : Bool) → (a || b) ≡ true → (a ≡ true) ⊎ (b ≡ true)
one_of true b e = inl refl
one_of false b e = inr e

pub some_order : (test : Ordering → Bool) (r s : RangeView) → may_pass test r s ≡ true
    → (o : Ordering) × (test o ≡ true) × (may_compare r s o ≡ true)
some_order test r s h =
    let less = test Less && may_compare r s Less in
    let equal = test Equal && may_compare r s Equal in
    let greater = test Greater && may_compare r s Greater in
    let rest : (less || (equal || greater)) ≡ true =
    second (r.may_be_value && s.may_be_value) (less || (equal || greater)) h in
    elim (one_of less (equal || greater) rest) [
      | inl e ↦ (
        Less,
        first (test Less) (may_compare r s Less) e,
        second (test Less) (may_compare r s Less) e,
      )
      | inr f ↦ elim (one_of equal greater f) [
        | inl e ↦ (
          Equal,
          first (test Equal) (may_compare r s Equal) e,
          second (test Equal) (may_compare r s Equal) e,
        )
        | inr e ↦ (
          Greater,
          first (test Greater) (may_compare r s Greater) e,
          second (test Greater) (may_compare r s Greater) e,
        )
      ]
    ]
