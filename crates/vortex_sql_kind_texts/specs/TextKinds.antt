-- Casts of texts to dates, timestamps, floats and decimals. Spaces at their ends are passed over.
use Rattle.std.specs.Prelude.{◌≡◌, ◌∷◌, ◌*ℤ◌, ℕ, ℤ, pos, [], List, Option, Some, None, codes, false}
use Rattle.std.specs.Prelude.{Bool, ◌&&◌, if◌then◌else◌, get_or, nat_eq, option_and_then, refl}
use Rattle.std.specs.Prelude.{unsigned_abs}
use Rattle.std.specs.Char.{is_ascii_digit}
use Rattle.std.specs.List.{list_any}
use Rattle.std.specs.Option.{option_or}
use Rattle.vortex_errors.specs.declared.arity.Arity.TheVariants.{Exact}
use Rattle.vortex_types.specs.declared.dtype.PType.{PType}
use Rattle.vortex_types.specs.declared.dtype.PType.TheVariants.{I64}
use Rattle.vortex_types.specs.LogicalTypes.{integer_type}
use Rattle.vortex_types.specs.Values.{Value}
use Rattle.vortex_interface.specs.Outcomes.{Outcome, GivesType}
use Rattle.vortex_logical.specs.declared.kind.Kind.{Kind}
use Rattle.vortex_logical.specs.declared.kind.Kind.TheVariants as kind
use Rattle.vortex_logical.specs.Cells.{stored_of_text}
use Rattle.vortex_logical.specs.Digits.{Digits}
use Rattle.vortex_sql_rows.specs.declared.faults.RowFault.{RowFault}
use Rattle.vortex_sql_rows.specs.declared.faults.RowFault.TheVariants.{NoDecimal, OtherValues}
use Rattle.vortex_sql_rows.specs.declared.types.Gives.TheVariants as answer
use Rattle.vortex_sql_rows.specs.declared.types.Kind.TheVariants.{Text, Integer}
use Rattle.vortex_sql_rows.specs.declared.types.Takes.TheVariants.{Alike, Each}
use Rattle.vortex_sql_rows.specs.Faults.{faults_by}
use Rattle.vortex_sql_rows.specs.Integers.{checked, checked_fits, int_or_fault}
use Rattle.vortex_sql_rows.specs.Row.{Row, LawfulRow}
use Rattle.vortex_sql_rows.specs.Shapes.{number_in, text_in, strict_row, strict_of, one_text}
use Rattle.vortex_sql_rows.specs.Shapes.{one_text_lawful, strict_lawful, three_fit, with_three}
use Rattle.vortex_sql_texts.specs.TextCasts.{in_type, within_spaces}
use Rattle.vortex_sql_kind_texts.specs.declared.kinds.StoredKind.{StoredKind}
use Rattle.vortex_sql_kind_texts.specs.declared.kinds.StoredKind.TheVariants.{Date, Timestamp, F64}
use Rattle.vortex_sql_kind_texts.specs.declared.kinds.StoredKind.TheVariants.{F32}
use Rattle.vortex_sql_kind_texts.specs.StoredKinds.{ptype_of, fault_of}
use Rattle.vortex_sql_kind_texts.specs.StoredRows.{on_taken, digits_in}

-- the microseconds of a day's midnight, if 64 bits hold them
abbrev pub midnight : ℤ → Option ℤ
midnight z = checked I64 (z *ℤ pos 86_400_000_000)

-- an infinity of a text with digits: no float holds that number
abbrev pub is_past : ℕ → List ℕ → ℤ → Bool
is_past infinity bs z = nat_eq (unsigned_abs z) infinity && list_any is_ascii_digit bs

-- the stored float, unless no float holds the number
abbrev pub held : ℕ → List ℕ → ℤ → Option ℤ
held infinity bs z = if is_past infinity bs z then None else Some z

abbrev pub past_if : ℕ → List ℕ → Option ℤ → Bool
past_if infinity bs None = false
past_if infinity bs (Some z) = is_past infinity bs z

abbrev pub is_read_past : Kind → ℕ → List ℕ → Bool
is_read_past k infinity bs = past_if infinity bs (stored_of_text k bs)

-- the text is a number so large that it would be rounded to an infinity of the kind
abbrev pub overflows : Kind → List ℕ → Bool
overflows kind.F64 bs = is_read_past kind.F64 9_218_868_437_227_405_312 bs
overflows kind.F32 bs = is_read_past kind.F32 2_139_095_040 bs
overflows k bs = false

abbrev pub float_of : Kind → ℕ → List ℕ → Option ℤ
float_of k infinity bs = option_and_then (held infinity bs) (stored_of_text k bs)

-- the stored integer of a text; a date alone is the timestamp of its midnight, and the infinities of
-- floats are stored as their patterns and these negated
abbrev pub stored_of : StoredKind → List ℕ → Option ℤ
stored_of Timestamp bs =
    option_or (option_and_then midnight (stored_of_text kind.Date bs))
    (stored_of_text kind.Timestamp bs)
stored_of Date bs = stored_of_text kind.Date bs
stored_of F64 bs = float_of kind.F64 9_218_868_437_227_405_312 bs
stored_of F32 bs = float_of kind.F32 2_139_095_040 bs

-- the number that the type has, or the fault
abbrev pub stored_or_fault : RowFault → PType → Option ℤ → Outcome
stored_or_fault f p z = int_or_fault f (in_type p z)

abbrev pub text_stored : StoredKind → List ℕ → Outcome
text_stored k bs = stored_or_fault (fault_of k) (ptype_of k) (stored_of k (within_spaces bs))

abbrev pub text_id : StoredKind → List ℕ
text_id Date = codes "sql.utf8_to_date"
text_id Timestamp = codes "sql.utf8_to_timestamp"
text_id F64 = codes "sql.utf8_to_f64"
text_id F32 = codes "sql.utf8_to_f32"

abbrev pub text_row : StoredKind → Row
text_row k =
    strict_row (text_id k) 1 (Alike Text) (answer.Integer (ptype_of k)) false
    (one_text (text_stored k))

text_named : (k : StoredKind) → get_or (text_id k) 0 0 ≡ 115
text_named Date = refl
text_named Timestamp = refl
text_named F64 = refl
text_named F32 = refl

stored_fits : (f : RowFault) (p : PType) (z : Option ℤ)
    → GivesType (integer_type p false) (stored_or_fault f p z)
stored_fits f p None = tt
stored_fits f p (Some z) = checked_fits f p z

pub text_lawful : (k : StoredKind) → LawfulRow (text_row k)
text_lawful k =
    one_text_lawful (text_id k) (answer.Integer (ptype_of k)) false (text_named k) (text_stored k)
    (λ n bs u. stored_fits (fault_of k) (ptype_of k) (stored_of k (within_spaces bs)))
    (λ bs e u. cc)

-- the stored integer of the decimal of these digits
abbrev pub text_digits : List ℕ → Digits → Outcome
text_digits bs d =
    stored_or_fault NoDecimal I64 (stored_of_text (kind.Decimal d) (within_spaces bs))

abbrev pub text_decimal : List ℕ → ℤ → ℤ → Outcome
text_decimal bs p s = on_taken (text_digits bs) (digits_in p s)

-- of a text, a precision and a scale
abbrev pub decimal_of : List Value → Outcome
decimal_of (v ∷ w ∷ x ∷ []) = with_three text_decimal (text_in v) (number_in w) (number_in x)
decimal_of vs = faults_by OtherValues

abbrev pub decimal_row : Row
decimal_row =
    strict_of (codes "sql.utf8_to_decimal") (Exact 3) (Each Text Integer Integer)
    (answer.Integer I64) false (λ p vs. decimal_of vs)

digits_fit : (bs : List ℕ) (d : Option Digits)
    → GivesType (integer_type I64 false) (on_taken (text_digits bs) d)
digits_fit bs None = tt
digits_fit bs (Some d) =
    stored_fits NoDecimal I64 (stored_of_text (kind.Decimal d) (within_spaces bs))

decimal_fits : (vs : List Value) → GivesType (integer_type I64 false) (decimal_of vs)
decimal_fits (v ∷ w ∷ x ∷ []) =
    three_fit (integer_type I64 false) text_decimal (λ bs p s. digits_fit bs (digits_in p s))
    (text_in v) (number_in w) (number_in x)
decimal_fits [] = tt
decimal_fits (v ∷ []) = tt
decimal_fits (v ∷ w ∷ []) = tt
decimal_fits (v ∷ w ∷ x ∷ y ∷ vs) = tt

pub decimal_lawful : LawfulRow decimal_row
decimal_lawful =
    strict_lawful (codes "sql.utf8_to_decimal") (Exact 3) (Each Text Integer Integer)
    (answer.Integer I64) false (λ p vs. decimal_of vs) refl (λ t vs a. decimal_fits vs)
    (λ t vs a e. cc)
