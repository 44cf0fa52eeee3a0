-- The range of a type admits each value of the type.
use Rattle.std.specs.Prelude.{◌≡◌, ◌≤ℤ◌, ℤ, List, [], ◌∷◌, ℕ, Bool, true, false}
use Rattle.std.specs.Prelude.{Option, Some, None, refl}
use Rattle.std.specs.Prelude.{◌<ℤ◌}
use Rattle.std.proofs.Common.{arith, sym}
use Rattle.std.specs.declared.cmp.Ordering.{Ordering}
use Rattle.std.specs.declared.cmp.Ordering.TheVariants.{Less, Equal, Greater}
use Rattle.std.specs.Ordering.{is_gt, int_cmp}
use Rattle.std.proofs.lemmas.Int.{ints}
use Rattle.std.proofs.lemmas.Cmp.{int_ranked}
use Rattle.vortex_types.specs.LogicalTypes.{LogicalType, null_type, bool_type, integer_type}
use Rattle.vortex_types.specs.LogicalTypes.{text_type, bytes_type, struct_type, list_type}
use Rattle.vortex_types.specs.LogicalTypes.{fixed_size_list_type, map_type, is_nullable}
use Rattle.vortex_types.specs.Values.{Value, null, truth, number, text, bytes}
use Rattle.vortex_types.specs.Values.{is_null}
use Rattle.vortex_types.specs.Typing.{HasType, least_of, greatest_of}
use Rattle.vortex_types.proofs.NullValues.{not_null}
use Rattle.vortex_ranges.specs.Ranges.{RangeView, Admits, is_above, is_under, is_over, is_inside}
use Rattle.vortex_ranges.specs.Ranges.{may_be, only}
use Rattle.vortex_ranges.specs.TypeRanges.{least, greatest, known_or, of_type, narrowed}
use Rattle.vortex_ranges.specs.Sound.{AdmitTyped}
use Rattle.vortex_ranges.proofs.Tests.{both}
use Rattle.vortex_ranges.proofs.Above.{inside_itself, inside, not_under, not_over, has_value}
use Rattle.vortex_ranges.proofs.Above.{lies_inside}

only-admits : (v : Value) → Admits (only v) v
only-admits null = refl
only-admits v = inside_itself v

nullable : (t : LogicalType) → HasType t null → is_nullable t ≡ true
nullable t h = by (is_nullable t) refl
  where
    by : (b : Bool) → is_nullable t ≡ b → b ≡ true
    by true e = refl
    by false e = let never : true ≡ false = not_null t null h e in cc

empty_is_least : (bs : List ℕ) → is_above (text []) (text bs) ≡ false
empty_is_least [] = refl
empty_is_least (b ∷ bs) = refl

no_bytes_are_least : (bs : List ℕ) → is_above (bytes []) (bytes bs) ≡ false
no_bytes_are_least [] = refl
no_bytes_are_least (b ∷ bs) = refl

pub not_below : (x y : ℤ) → x ≤ℤ y → is_above (number x) (number y) ≡ false
not_below x y h = by (int_cmp x y) refl
  where
    by : (o : Ordering) → int_cmp x y ≡ o → is_gt o ≡ false
    by Less e = refl
    by Equal e = refl
    by Greater e =
        let below : y <ℤ x = int_ranked x y Greater (sym e) in
        absurd (omega (arith, ints, below, h))

above_least : (t : LogicalType) (v : Value) → HasType t v → is_null v ≡ false
    → is_under (least t) v ≡ false
above_least t null h e = cc
above_least (bool_type n) (truth false) h e = refl
above_least (bool_type n) (truth true) h e = refl
above_least (integer_type p n) (number z) h e = not_below (least_of p) z h.0
above_least (text_type n) (text bs) h e = empty_is_least bs
above_least (bytes_type n) (bytes bs) h e = no_bytes_are_least bs
above_least null_type v h e = refl
above_least (struct_type fs n) v h e = refl
above_least (list_type t n) v h e = refl
above_least (fixed_size_list_type t s n) v h e = refl
above_least (map_type k w n) v h e = refl
above_least t v h e = absurd h

below_greatest : (t : LogicalType) (v : Value) → HasType t v → is_null v ≡ false
    → is_over (greatest t) v ≡ false
below_greatest t null h e = cc
below_greatest (bool_type n) (truth false) h e = refl
below_greatest (bool_type n) (truth true) h e = refl
below_greatest (integer_type p n) (number z) h e = not_below z (greatest_of p) h.1
below_greatest (bool_type n) v h e = absurd h
below_greatest (integer_type p n) v h e = absurd h
below_greatest t v h e = refl

inside_type : (t : LogicalType) (v : Value) → HasType t v → is_null v ≡ false
    → is_inside (least t) (greatest t) v ≡ true
inside_type t v h e =
    inside (least t) (greatest t) v (above_least t v h e) (below_greatest t v h e)

type-admits : (f : Bool) (t : LogicalType) (v : Value) → HasType t v → Admits (of_type f t) v
type-admits f t null h = nullable t h
type-admits f t v h = inside_type t v h refl

not_under_either : (low other : Option Value) (v : Value) → is_under low v ≡ false
    → is_under other v ≡ false → is_under (known_or low other) v ≡ false
not_under_either None other v d e = e
not_under_either (Some low) other v d e = d

not_over_either : (high other : Option Value) (v : Value) → is_over high v ≡ false
    → is_over other v ≡ false → is_over (known_or high other) v ≡ false
not_over_either None other v d e = e
not_over_either (Some high) other v d e = d

still_may_be : (t : LogicalType) (r : RangeView) (v : Value) → HasType t v → is_null v ≡ false
    → may_be r v ≡ true → may_be (narrowed t r) v ≡ true
still_may_be t r v h n e =
    both r.may_be_value
    (is_inside (known_or r.low (least t)) (known_or r.high (greatest t)) v) (has_value r v e)
    (inside (known_or r.low (least t)) (known_or r.high (greatest t)) v
    (not_under_either r.low (least t) v (not_under r.low r.high v (lies_inside r v e))
    (above_least t v h n))
    (not_over_either r.high (greatest t) v (not_over r.low r.high v (lies_inside r v e))
    (below_greatest t v h n)))

pub narrowed-admits : (t : LogicalType) (r : RangeView) (v : Value) → HasType t v → Admits r v
    → Admits (narrowed t r) v
narrowed-admits t r null h e = both r.may_be_null (is_nullable t) e (nullable t h)
narrowed-admits t r v h e = still_may_be t r v h refl e

pub typed_admitted : AdmitTyped
typed_admitted = record {
  itself = only-admits;
  typed = type-admits;
  kept = narrowed-admits;
}
