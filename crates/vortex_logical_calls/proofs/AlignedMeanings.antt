-- Values in the kind in which several meet mean what they mean.
use Rattle.std.proofs.Common.{◌≡◌, ◌∙◌, ◌≤◌, ◌-◌, ℕ, Bool, true, false, refl, ap, sym, subst, arith}
use Rattle.std.specs.Prelude.{max, Option, Some, None, is_some, if◌then◌else◌}
use Rattle.std.specs.Option.{option_map}
use Rattle.vortex_types.specs.declared.dtype.PType.{PType}
use Rattle.vortex_types.specs.declared.dtype.PType.TheVariants.{I8, I16, I32, I64, U8, U16, U32, U64}
use Rattle.vortex_types.specs.TypeEquality.{ptype_eq, ptype_yes}
use Rattle.vortex_logical.specs.declared.kind.Kind.TheVariants.{Plain, Date, Timestamp, Decimal}
use Rattle.vortex_logical.specs.declared.kind.Kind.TheVariants.{F64, F32}
use Rattle.vortex_logical.specs.declared.operand.Operand.{Operand}
use Rattle.vortex_logical.specs.declared.operand.Operand.TheVariants.{Whole, Of}
use Rattle.vortex_logical.specs.Digits.{Digits}
use Rattle.vortex_logical.specs.CommonKinds.{common_operand, common_digits}
use Rattle.vortex_standard.specs.declared.scales.DecimalScale.{DecimalScale}
use Rattle.vortex_standard.specs.declared.standard.Standard.{Standard}
use Rattle.vortex_standard.specs.declared.standard.Standard.TheVariants as standard
use Rattle.vortex_standard.specs.Scales as scales
use Rattle.vortex_lowering.specs.Operands.{are_shipped, scale_of}
use Rattle.vortex_lowering.specs.Rows.{lowered}
use Rattle.vortex_lowering.specs.LoweredTrees.{tree_at_scale}
use Rattle.vortex_lowering.proofs.AlignedRows.{aligns}
use Rattle.vortex_logical_calls.specs.declared.conversions.Conversion.{Conversion}
use Rattle.vortex_logical_calls.specs.declared.conversions.Conversion.TheVariants.{Keep, Float, Integer, Instant}
use Rattle.vortex_logical_calls.specs.Outcomes.{Outcome, made}
use Rattle.vortex_logical_calls.specs.Calls.{Tree, Lowered, meaning, call_one}
use Rattle.vortex_logical_calls.specs.Conversions.{conversion_beside, converted, after}
use Rattle.vortex_logical_calls.specs.Conversions.{float_function, integer_function, integer_cast}
use Rattle.vortex_logical_calls.specs.Alignment.{lengthened, aligned}
use Rattle.vortex_logical_calls.specs.RowLaws.{has_scale, AlignedRows, ValuesAreAligned}
use Rattle.vortex_logical_calls.proofs.RowMeanings.{made_is, after_is, typed_made}

-- the kind of an operand after a function, if there is one
abbrev kind_after : Option Standard → Operand → Operand → Operand
kind_after None b a = a
kind_after (Some f) b a = b

abbrev moved : Conversion → Operand → Operand
moved Keep a = a
moved Float a = kind_after (float_function a) (Of F64) a
moved (Integer p) a = kind_after (integer_function a p) (Whole p) a
moved Instant a = Of Timestamp

after_kind : (o : Option Standard) (b : Operand) (x z : Lowered) → after o b x ≡ made z
    → z.operand ≡ kind_after o b x.operand
after_kind None b x z e = ap (λ y. y.operand) (sym (made_is x z e))
after_kind (Some f) b x z e =
    let one = after_is (call_one f x.tree) (λ t. made (lowered t b)) z e in
    ap (λ y. y.operand) (sym (made_is (lowered one.a b) z one.then))

converted_kind : (c : Conversion) (x z : Lowered) → converted c x ≡ made z
    → z.operand ≡ moved c x.operand
converted_kind Keep x z e = ap (λ y. y.operand) (sym (made_is x z e))
converted_kind Float x z e = after_kind (float_function x.operand) (Of F64) x z e
converted_kind (Integer p) x z e = after_kind (integer_function x.operand p) (Whole p) x z e
converted_kind Instant x z e = after_kind (Some standard.DateToTimestamp) (Of Timestamp) x z e

-- a shipped function compares the operand with the common kind, and it has no more digits after the
-- point
abbrev IsBelow : Operand → Operand → Type 0
IsBelow c b = (are_shipped b c ≡ true) × (scale_of b ≤ scale_of c)

none_below : 0 ≤ 0
none_below = omega arith

-- whole numbers next to a decimal are of 64 bits
whole_below : (q : PType) (d : Digits)
    → IsBelow (Of (Decimal d)) (kind_after (integer_function (Whole q) I64) (Whole I64) (Whole q))
whole_below q d = by (ptype_eq q I64) refl
  where
    low : 0 ≤ d.scale
    low = omega arith

    by : (b : Bool) → ptype_eq q I64 ≡ b
        → IsBelow (Of (Decimal d))
        (kind_after (if b then None else Some (integer_cast q I64)) (Whole I64) (Whole q))
    by true h = (h, low)
    by false h = (refl, low)

-- a decimal with a scale is converted to a float
decimal_below : (d : Digits) → is_some (scales.scale_of d.scale) ≡ true
    → IsBelow (Of F64) (kind_after (float_function (Of (Decimal d))) (Of F64) (Of (Decimal d)))
decimal_below d h = by (scales.scale_of d.scale) h
  where
    by : (o : Option DecimalScale) → is_some o ≡ true
        → IsBelow (Of F64) (kind_after (option_map standard.DecimalToFloat o) (Of F64) (Of (Decimal d)))
    by None h = cc
    by (Some s) h = (refl, none_below)

scales_below : (d e : Digits) → Some (Of (Decimal (common_digits d e))) ≡ Some (Of (Decimal e))
    → d.scale ≤ e.scale
scales_below d e h = let s : max d.scale e.scale ≡ e.scale = cc in omega (arith, s)

whole_keeps : (r : PType)
    → IsBelow (Whole r) (moved (conversion_beside (Whole r) (Whole r)) (Whole r))
whole_keeps I8 = (refl, none_below)
whole_keeps I16 = (refl, none_below)
whole_keeps I32 = (refl, none_below)
whole_keeps I64 = (refl, none_below)
whole_keeps U8 = (refl, none_below)
whole_keeps U16 = (refl, none_below)
whole_keeps U32 = (refl, none_below)
whole_keeps U64 = (refl, none_below)

whole_same : (p q : PType) → common_operand (Whole p) (Whole q) ≡ Some (Whole q)
    → IsBelow (Whole q) (moved (conversion_beside (Whole p) (Whole q)) (Whole p))
whole_same p q e = by (ptype_eq p q) refl e
  where
    by : (b : Bool) → ptype_eq p q ≡ b → (if b then Some (Whole p) else None) ≡ Some (Whole q)
        → IsBelow (Whole q) (moved (conversion_beside (Whole p) (Whole q)) (Whole p))
    by true h k =
        subst (λ r. IsBelow (Whole r) (moved (conversion_beside (Whole p) (Whole r)) (Whole p)))
        (ptype_yes p q h) (whole_keeps p)
    by false h k = cc

shipped_within : (a c : Operand) → has_scale a ≡ true → common_operand a c ≡ Some c
    → IsBelow c (moved (conversion_beside a c) a)
shipped_within (Whole p) (Whole q) s e = whole_same p q e
shipped_within (Whole p) (Of (Decimal d)) s e = whole_below p d
shipped_within (Of (Decimal d)) (Of (Decimal f)) s e = (refl, scales_below d f e)
shipped_within (Of Plain) (Of Plain) s e = (refl, none_below)
shipped_within (Of Date) (Of Date) s e = (refl, none_below)
shipped_within (Of Timestamp) (Of Timestamp) s e = (refl, none_below)
shipped_within (Of F32) (Of F32) s e = (refl, none_below)
shipped_within (Of F64) (Of F64) s e = (refl, none_below)
shipped_within (Of F32) (Of F64) s e = (refl, none_below)
shipped_within (Whole p) (Of F64) s e = (refl, none_below)
shipped_within (Of (Decimal d)) (Of F64) s e = decimal_below d s
shipped_within a c s e = cc

pub alignments : ValuesAreAligned
alignments common x t s w e =
    let one = after_is (converted (conversion_beside x.operand common) x) (λ a. lengthened common a) t e in
    let m = typed_made (tree_at_scale (scale_of common) one.a) t one.then in
    let kind = converted_kind (conversion_beside x.operand common) x one.a one.first in
    let fits = shipped_within x.operand common s w in
    let shipped : are_shipped one.a.operand common ≡ true =
    ap (λ b. are_shipped b common) kind ∙ fits.0 in
    record {
      a = one.a;
      beside = one.first;
      scale = subst (λ b. scale_of b ≤ scale_of common) (sym kind) fits.1;
      rows = aligns meaning common one.a shipped t m.is m.takes;
    }
