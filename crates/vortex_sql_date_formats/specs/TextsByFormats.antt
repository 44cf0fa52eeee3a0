-- Texts as the dates and timestamps that they are by formats, as PostgreSQL's `to_date` and
-- `to_timestamp` have them.
use Rattle.std.specs.Prelude.{◌≡◌, ◌+ℤ◌, ◌*ℤ◌, ◌<◌, ℕ, ℤ, pos, Bool, true, false, List}
use Rattle.std.specs.Prelude.{Option, Some, None, codes, if◌then◌else◌, option_and_then, refl}
use Rattle.std.proofs.Common.{arith, cond}
use Rattle.jiff_core.specs.Calendar.{IsEpochDay}
use Rattle.jiff_core.proofs.SignedLemmas.{signed_arith}
use Rattle.vortex_types.specs.declared.dtype.PType.TheVariants.{I32, I64}
use Rattle.vortex_types.specs.LogicalTypes.{integer_type}
use Rattle.vortex_types.specs.Values.{number}
use Rattle.vortex_interface.specs.Outcomes.{Outcome, GivesType, custom, faults, gives}
use Rattle.vortex_sql_rows.specs.declared.types.Gives.TheVariants as answer
use Rattle.vortex_sql_rows.specs.declared.types.Kind.TheVariants.{Text}
use Rattle.vortex_sql_rows.specs.declared.types.Takes.TheVariants.{Alike}
use Rattle.vortex_sql_rows.specs.Row.{Row, LawfulRow}
use Rattle.vortex_sql_rows.specs.Shapes.{strict_row, two_texts, two_texts_lawful}
use Rattle.vortex_sql_date_formats.specs.declared.fields.Fields.{Fields}
use Rattle.vortex_sql_date_formats.specs.Fields.{is_readable, no_fields}
use Rattle.vortex_sql_date_formats.specs.FormatFaults.{other_format, unknown_format}
use Rattle.vortex_sql_date_formats.specs.Formats.{items_of}
use Rattle.vortex_sql_date_formats.specs.ReadFormats.{read_items}
use Rattle.vortex_sql_date_formats.specs.InstantRanges.{field_range}
use Rattle.vortex_sql_date_formats.specs.ReadInstants.{instant_of}

-- the day that a text is by a format, and the time of that day
abbrev pub instant_by : List ℕ → List ℕ → Option (ℤ × ℕ)
instant_by bs fs = option_and_then instant_of (read_items (items_of fs) bs no_fields)

instant_range : (bs fs : List ℕ) (i : ℤ × ℕ) → instant_by bs fs ≡ Some i
    → IsEpochDay i.0 × (i.1 < 86_400_000_000)
instant_range bs fs i e = by (read_items (items_of fs) bs no_fields) e
  where
    by : (o : Option Fields) → option_and_then instant_of o ≡ Some i
        → IsEpochDay i.0 × (i.1 < 86_400_000_000)
    by None h = cc
    by (Some f) h = field_range f i h

abbrev pub day_or_fault : Option (ℤ × ℕ) → Outcome
day_or_fault None = faults (custom other_format)
day_or_fault (Some i) = gives (number i.0)

abbrev pub micros_or_fault : Option (ℤ × ℕ) → Outcome
micros_or_fault None = faults (custom other_format)
micros_or_fault (Some i) = gives (number (i.0 *ℤ pos 86_400_000_000 +ℤ pos i.1))

abbrev pub by_known : List ℕ → Outcome → Outcome
by_known fs o = if is_readable (items_of fs) then o else faults (custom unknown_format)

abbrev pub date_by : List ℕ → List ℕ → Outcome
date_by bs fs = by_known fs (day_or_fault (instant_by bs fs))

abbrev pub timestamp_by : List ℕ → List ℕ → Outcome
timestamp_by bs fs = by_known fs (micros_or_fault (instant_by bs fs))

abbrev pub date_by_row : Row
date_by_row =
    strict_row (codes "sql.utf8_to_date_by") 2 (Alike Text) (answer.Integer I32) false
    (two_texts date_by)

abbrev pub timestamp_by_row : Row
timestamp_by_row =
    strict_row (codes "sql.utf8_to_timestamp_by") 2 (Alike Text) (answer.Integer I64) false
    (two_texts timestamp_by)

date_fits : (bs fs : List ℕ) → GivesType (integer_type I32 false) (date_by bs fs)
date_fits bs fs = by (is_readable (items_of fs)) (instant_by bs fs) refl
  where
    by : (b : Bool) (o : Option (ℤ × ℕ)) → instant_by bs fs ≡ o
        → GivesType (integer_type I32 false)
        (cond b (day_or_fault o) (faults (custom unknown_format)))
    by true (Some i) e =
        let day = (instant_range bs fs i e).0 in
        (omega (arith, signed_arith, day.0), omega (arith, signed_arith, day.1))
    by true None e = tt
    by false o e = tt

timestamp_fits : (bs fs : List ℕ) → GivesType (integer_type I64 false) (timestamp_by bs fs)
timestamp_fits bs fs = by (is_readable (items_of fs)) (instant_by bs fs) refl
  where
    by : (b : Bool) (o : Option (ℤ × ℕ)) → instant_by bs fs ≡ o
        → GivesType (integer_type I64 false)
        (cond b (micros_or_fault o) (faults (custom unknown_format)))
    by true (Some i) e =
        let r = instant_range bs fs i e in
        (omega (arith, signed_arith, r.0.0, r.1), omega (arith, signed_arith, r.0.1, r.1))
    by true None e = tt
    by false o e = tt

pub date_by_lawful : LawfulRow date_by_row
date_by_lawful =
    two_texts_lawful (codes "sql.utf8_to_date_by") (answer.Integer I32) false refl date_by
    (λ n bs fs u v. date_fits bs fs) (λ bs fs e u v. cc)

pub timestamp_by_lawful : LawfulRow timestamp_by_row
timestamp_by_lawful =
    two_texts_lawful (codes "sql.utf8_to_timestamp_by") (answer.Integer I64) false refl timestamp_by
    (λ n bs fs u v. timestamp_fits bs fs) (λ bs fs e u v. cc)
