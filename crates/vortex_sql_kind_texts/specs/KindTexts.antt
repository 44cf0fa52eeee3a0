-- Casts of dates, timestamps and decimals to texts.
use Rattle.std.specs.Prelude.{◌≡◌, ◌∷◌, ◌++◌, ◌&&◌, ℕ, ℤ, pos, neg_ℤ, [], List, Option, Some, None, codes}
use Rattle.std.specs.Prelude.{false, get_or, if◌then◌else◌, int_le, refl, unsigned_abs}
use Rattle.std.specs.Option.{option_map}
use Rattle.vortex_errors.specs.declared.arity.Arity.TheVariants.{Exact}
use Rattle.vortex_types.specs.declared.dtype.PType.TheVariants.{I64}
use Rattle.vortex_types.specs.LogicalTypes.{text_type}
use Rattle.vortex_types.specs.Values.{Value}
use Rattle.vortex_interface.specs.Outcomes.{Outcome, GivesType}
use Rattle.vortex_logical.specs.DateTexts.{date_text}
use Rattle.vortex_logical.specs.DecimalTexts.{decimal_text}
use Rattle.vortex_logical.specs.Digits.{Digits}
use Rattle.vortex_logical.specs.TimestampTexts.{time_text}
use Rattle.vortex_sql_dates.specs.CountedDays.{cycle_date, year_of}
use Rattle.vortex_sql_dates.specs.Instants.{day_of, time_of}
use Rattle.vortex_sql_rows.specs.declared.faults.RowFault.{RowFault}
use Rattle.vortex_sql_rows.specs.declared.faults.RowFault.TheVariants.{OtherValues}
use Rattle.vortex_sql_rows.specs.declared.types.Gives.TheVariants as answer
use Rattle.vortex_sql_rows.specs.declared.types.Kind.TheVariants.{Integer, Within}
use Rattle.vortex_sql_rows.specs.declared.types.Takes.TheVariants.{Alike, Each}
use Rattle.vortex_sql_rows.specs.Faults.{faults_by}
use Rattle.vortex_sql_rows.specs.Integers.{checked}
use Rattle.vortex_sql_rows.specs.Row.{Row, LawfulRow}
use Rattle.vortex_sql_rows.specs.Shapes.{both_fit, number_in, one_int, one_int_lawful, strict_lawful}
use Rattle.vortex_sql_rows.specs.Shapes.{strict_of, strict_row, with_both}
use Rattle.vortex_sql_texts.specs.MadeTexts.{made_fits, text_or_fault}
use Rattle.vortex_sql_kind_texts.specs.declared.kinds.WrittenKind.{WrittenKind}
use Rattle.vortex_sql_kind_texts.specs.declared.kinds.WrittenKind.TheVariants.{Date, Timestamp}
use Rattle.vortex_sql_kind_texts.specs.StoredKinds.{range_fault_of, written_ptype_of}
use Rattle.vortex_sql_kind_texts.specs.StoredRows.{on_taken, digits_in}

-- the text of the day with that number, as 2024-02-29, in the years 0000 to 9999
abbrev pub day_text : ℤ → Option (List ℕ)
day_text z =
    if int_le (neg_ℤ (pos 719528)) z && int_le z (pos 2932896)
    then Some (date_text (unsigned_abs (year_of z)) (cycle_date z).month (cycle_date z).day)
    else None

-- and of an instant, as 2024-02-29T12:34:56
abbrev pub instant_text : ℤ → Option (List ℕ)
instant_text z = option_map (λ date. date ++ time_text (time_of z)) (day_text (day_of z))

abbrev pub stored_text : WrittenKind → ℤ → Option (List ℕ)
stored_text Date z = day_text z
stored_text Timestamp z = instant_text z

abbrev pub written_or_fault : RowFault → Option (List ℕ) → Outcome
written_or_fault f None = faults_by f
written_or_fault f (Some bs) = text_or_fault bs

abbrev pub kind_text : WrittenKind → ℤ → Outcome
kind_text k z = written_or_fault (range_fault_of k) (stored_text k z)

abbrev pub number_text : WrittenKind → ℤ → Outcome
number_text k z = on_taken (kind_text k) (checked (written_ptype_of k) z)

abbrev pub kind_id : WrittenKind → List ℕ
kind_id Date = codes "sql.date_to_utf8"
kind_id Timestamp = codes "sql.timestamp_to_utf8"

abbrev pub kind_row : WrittenKind → Row
kind_row k =
    strict_row (kind_id k) 1 (Alike (Within (written_ptype_of k))) answer.Text false
    (one_int (λ p. number_text k))

kind_named : (k : WrittenKind) → get_or (kind_id k) 0 0 ≡ 115
kind_named Date = refl
kind_named Timestamp = refl

pub written_fits : (f : RowFault) (t : Option (List ℕ))
    → GivesType (text_type false) (written_or_fault f t)
written_fits f None = tt
written_fits f (Some bs) = made_fits bs

number_fits : (k : WrittenKind) (z : Option ℤ)
    → GivesType (text_type false) (on_taken (kind_text k) z)
number_fits k None = tt
number_fits k (Some z) = written_fits (range_fault_of k) (stored_text k z)

pub kind_lawful : (k : WrittenKind) → LawfulRow (kind_row k)
kind_lawful k =
    one_int_lawful (kind_id k) (Within (written_ptype_of k)) answer.Text false (kind_named k) tt
    (λ p. number_text k)
    (λ p n z h f. number_fits k (checked (written_ptype_of k) z)) (λ p z e h. cc)

-- the stored integer of a decimal in digits, so many of them after the point
abbrev pub digits_text : ℤ → Digits → Outcome
digits_text z d = text_or_fault (decimal_text d.scale z)

-- of the decimals of 18 digits and that scale
abbrev pub scaled_text : ℤ → ℤ → Outcome
scaled_text s z = on_taken (digits_text z) (digits_in (pos 18) s)

abbrev pub decimal_digits_text : ℤ → ℤ → Outcome
decimal_digits_text z s = on_taken (scaled_text s) (checked I64 z)

-- of a stored integer and a scale
abbrev pub decimal_text_of : List Value → Outcome
decimal_text_of (v ∷ w ∷ []) = with_both decimal_digits_text (number_in v) (number_in w)
decimal_text_of vs = faults_by OtherValues

abbrev pub decimal_row : Row
decimal_row =
    strict_of (codes "sql.decimal_to_utf8") (Exact 2) (Each (Within I64) Integer Integer)
    answer.Text false (λ p vs. decimal_text_of vs)

digits_fit : (z : ℤ) (d : Option Digits) → GivesType (text_type false) (on_taken (digits_text z) d)
digits_fit z None = tt
digits_fit z (Some d) = made_fits (decimal_text d.scale z)

scaled_fits : (s : ℤ) (z : Option ℤ) → GivesType (text_type false) (on_taken (scaled_text s) z)
scaled_fits s None = tt
scaled_fits s (Some z) = digits_fit z (digits_in (pos 18) s)

decimal_fits : (vs : List Value) → GivesType (text_type false) (decimal_text_of vs)
decimal_fits (v ∷ w ∷ []) =
    both_fit (text_type false) decimal_digits_text (λ z s. scaled_fits s (checked I64 z))
    (number_in v) (number_in w)
decimal_fits [] = tt
decimal_fits (v ∷ []) = tt
decimal_fits (v ∷ w ∷ x ∷ vs) = tt

pub decimal_lawful : LawfulRow decimal_row
decimal_lawful =
    strict_lawful (codes "sql.decimal_to_utf8") (Exact 2) (Each (Within I64) Integer Integer)
    answer.Text false (λ p vs. decimal_text_of vs) refl (λ t vs a. decimal_fits vs)
    (λ t vs a e. cc)
