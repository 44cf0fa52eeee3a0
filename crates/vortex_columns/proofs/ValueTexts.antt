-- The texts of nested values, one by one.
use Rattle.std.proofs.Common.{◌≡◌, ℕ, zero, suc, ◌<◌, List, [], ◌∷◌, ◌++◌, length, get_or, refl, ap}
use Rattle.std.proofs.Common.{◌∙◌, arith, min, subst, Some, Bool, false, ◌-◌, ◌^◌}
use Rattle.std.specs.Prelude.{codes}
use Rattle.std.specs.Option.{option_map}
use Rattle.std.specs.Fmt.{AppendsText, styled_digits_output, digits_output, digits, format_spec}
use Rattle.std.specs.Fmt.{padded_integral, shown_prefix, radix_prefix}
use Rattle.std.proofs.lemmas.Fmt.{hex_byte}
use Rattle.vortex_types.specs.LogicalTypes.{LogicalType, Fields, no_fields, field, field_count}
use Rattle.vortex_types.specs.LogicalTypes.{field_type}
use Rattle.vortex_types.specs.FieldNames.{field_name}
use Rattle.vortex_types.specs.Values.{Value, values_of}
use Rattle.vortex_columns.specs.ColumnView.{row}
use Rattle.vortex_columns.specs.Printing.{value_text, value_texts, field_texts, hex_text}

pub value_texts-length : (typed : Bool) (t : LogicalType) (vs : List Value)
    → length (value_texts typed t (values_of vs)) ≡ length vs
value_texts-length typed t [] = refl
value_texts-length typed t (v ∷ vs) = ap suc (value_texts-length typed t vs)

pub value_text_at : (typed : Bool) (t : LogicalType) (vs : List Value) (k : ℕ) (d : List ℕ)
    → k < length vs
    → value_text typed t (row vs k) ≡ get_or (value_texts typed t (values_of vs)) k d
value_text_at typed t [] k d h = absurd (omega arith)
value_text_at typed t (v ∷ vs) zero d h = refl
value_text_at typed t (v ∷ vs) (suc k) d h = value_text_at typed t vs k d (omega arith)

pub field_texts-length : (typed : Bool) (fs : Fields) (vs : List Value)
    → length (field_texts typed fs (values_of vs)) ≡ min (length vs) (field_count fs)
field_texts-length typed fs [] = omega arith
field_texts-length typed no_fields (v ∷ vs) = omega arith
field_texts-length typed (field name t fs) (v ∷ vs) = omega (arith, field_texts-length typed fs vs)

pub field_text_at : (typed : Bool) (fs : Fields) (vs : List Value) (k : ℕ) (d : List ℕ)
    → k < length vs
    → k < field_count fs
    → field_name k fs ++ codes ": " ++ value_text typed (field_type k fs) (row vs k) ≡ get_or
    (field_texts typed fs (values_of vs)) k d
field_text_at typed fs [] k d h g = absurd (omega arith)
field_text_at typed no_fields (v ∷ vs) k d h g = absurd (omega arith)
field_text_at typed (field name t fs) (v ∷ vs) zero d h g = refl
field_text_at typed (field name t fs) (v ∷ vs) (suc k) d h g =
    field_text_at typed fs vs k d (omega arith) (omega arith)

-- what `{:02x}` writes of a byte
pub hex_written : (old new : List ℕ) (d : _) (s : _) (b : ℕ) → b < 256
    → AppendsText old new (styled_digits_output d s) → s ≡ format_spec 32 0 4 2 (2 ^ 64 - 1)
    → digits_output d ≡ Some (digits 16 false b) → new ≡ old ++ hex_text b
hex_written old new d s b lt e f g =
    let out : styled_digits_output d s ≡ Some
    (padded_integral (format_spec 32 0 4 2 (2 ^ 64 - 1)) false [] (digits 16 false b)) =
    λ i. option_map (padded_integral (f i) false (shown_prefix (f i) (radix_prefix d.base)))
    (g i) in
    subst (λ o. AppendsText old new o) out e ∙ ap (λ (t : List ℕ). old ++ t) (hex_byte false b lt)
