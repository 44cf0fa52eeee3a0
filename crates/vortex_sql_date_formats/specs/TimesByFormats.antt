-- Dates and timestamps as the texts that they are by formats, as PostgreSQL's `to_char` has them in
-- the years 1 to 9999.
use Rattle.std.specs.Prelude.{◌∷◌, ◌&&◌, ℕ, ℤ, pos, neg_ℤ, [], List, codes}
use Rattle.std.specs.Prelude.{Bool, true, false, if◌then◌else◌, int_le, refl}
use Rattle.std.proofs.Common.{cond}
use Rattle.vortex_errors.specs.declared.arity.Arity.TheVariants.{Exact}
use Rattle.vortex_types.specs.declared.dtype.PType.TheVariants.{I32, I64}
use Rattle.vortex_types.specs.LogicalTypes.{text_type}
use Rattle.vortex_types.specs.Values.{Value}
use Rattle.vortex_interface.specs.Outcomes.{Outcome, GivesType, custom, faults}
use Rattle.vortex_sql_rows.specs.declared.faults.RowFault.{RowFault}
use Rattle.vortex_sql_rows.specs.declared.faults.RowFault.TheVariants.{DateRange, OtherValues}
use Rattle.vortex_sql_rows.specs.declared.faults.RowFault.TheVariants.{TimestampRange}
use Rattle.vortex_sql_rows.specs.declared.types.Gives.TheVariants as answer
use Rattle.vortex_sql_rows.specs.declared.types.Kind.TheVariants.{Text, Within}
use Rattle.vortex_sql_rows.specs.declared.types.Takes.TheVariants.{Each}
use Rattle.vortex_sql_rows.specs.Faults.{faults_by}
use Rattle.vortex_sql_rows.specs.Row.{Row, LawfulRow}
use Rattle.vortex_sql_rows.specs.Shapes.{both_fit, number_in, strict_lawful, strict_of, text_in}
use Rattle.vortex_sql_rows.specs.Shapes.{with_both}
use Rattle.vortex_sql_rows.specs.Types.{is_in}
use Rattle.vortex_sql_texts.specs.MadeTexts.{made_fits, text_or_fault}
use Rattle.vortex_sql_dates.specs.Instants.{day_of, time_of}
use Rattle.vortex_sql_date_formats.specs.CivilTimes.{civil_time}
use Rattle.vortex_sql_date_formats.specs.FormatFaults.{unknown_format}
use Rattle.vortex_sql_date_formats.specs.Formats.{items_of}
use Rattle.vortex_sql_date_formats.specs.WrittenFormats.{format_text, is_writable}

-- from 0001-01-01 to 9999-12-31
unfoldable pub known_text : List ℕ → RowFault → ℤ → ℕ → Outcome
known_text fs f z t =
    if int_le (neg_ℤ (pos 719162)) z && int_le z (pos 2932896)
    then text_or_fault (format_text (civil_time z t) (items_of fs)) else faults_by f

unfoldable pub time_text : List ℕ → RowFault → ℤ → ℕ → Outcome
time_text fs f z t =
    if is_writable fs then known_text fs f z t else faults (custom unknown_format)

-- no call passes a number that is none of the type
unfoldable pub date_text : ℤ → List ℕ → Outcome
date_text z fs = if is_in I32 z then time_text fs DateRange z 0 else faults_by OtherValues

unfoldable pub instant_text : ℤ → List ℕ → Outcome
instant_text z fs = time_text fs TimestampRange (day_of z) (time_of z)

unfoldable pub timestamp_text : ℤ → List ℕ → Outcome
timestamp_text z fs = if is_in I64 z then instant_text z fs else faults_by OtherValues

-- of a stored integer and a format
abbrev pub by_format : (ℤ → List ℕ → Outcome) → List Value → Outcome
by_format f (v ∷ w ∷ []) = with_both f (number_in v) (text_in w)
by_format f vs = faults_by OtherValues

abbrev pub date_row : Row
date_row =
    strict_of (codes "sql.date_to_char") (Exact 2) (Each (Within I32) Text Text) answer.Text false
    (λ p vs. by_format date_text vs)

abbrev pub timestamp_row : Row
timestamp_row =
    strict_of (codes "sql.timestamp_to_char") (Exact 2) (Each (Within I64) Text Text) answer.Text
    false (λ p vs. by_format timestamp_text vs)

known_fits : (fs : List ℕ) (f : RowFault) (z : ℤ) (t : ℕ)
    → GivesType (text_type false) (known_text fs f z t)
unfolding known_text
known_fits fs f z t = by (int_le (neg_ℤ (pos 719162)) z && int_le z (pos 2932896))
  where
    by : (b : Bool) → GivesType (text_type false)
        (cond b (text_or_fault (format_text (civil_time z t) (items_of fs))) (faults_by f))
    by true = made_fits (format_text (civil_time z t) (items_of fs))
    by false = tt

time_fits : (fs : List ℕ) (f : RowFault) (z : ℤ) (t : ℕ)
    → GivesType (text_type false) (time_text fs f z t)
unfolding time_text
time_fits fs f z t = by (is_writable fs)
  where
    by : (b : Bool) → GivesType (text_type false)
        (cond b (known_text fs f z t) (faults (custom unknown_format)))
    by true = known_fits fs f z t
    by false = tt

date_fits : (z : ℤ) (fs : List ℕ) → GivesType (text_type false) (date_text z fs)
unfolding date_text
date_fits z fs = by (is_in I32 z)
  where
    by : (b : Bool) → GivesType (text_type false)
        (cond b (time_text fs DateRange z 0) (faults_by OtherValues))
    by true = time_fits fs DateRange z 0
    by false = tt

timestamp_fits : (z : ℤ) (fs : List ℕ) → GivesType (text_type false) (timestamp_text z fs)
unfolding timestamp_text instant_text
timestamp_fits z fs = by (is_in I64 z)
  where
    by : (b : Bool) → GivesType (text_type false)
        (cond b (instant_text z fs) (faults_by OtherValues))
    by true = time_fits fs TimestampRange (day_of z) (time_of z)
    by false = tt

values_fit : (f : ℤ → List ℕ → Outcome)
    → ((z : ℤ) (fs : List ℕ) → GivesType (text_type false) (f z fs)) → (vs : List Value)
    → GivesType (text_type false) (by_format f vs)
values_fit f h (v ∷ w ∷ []) = both_fit (text_type false) f h (number_in v) (text_in w)
values_fit f h [] = tt
values_fit f h (v ∷ []) = tt
values_fit f h (v ∷ w ∷ x ∷ vs) = tt

pub date_lawful : LawfulRow date_row
date_lawful =
    strict_lawful (codes "sql.date_to_char") (Exact 2) (Each (Within I32) Text Text) answer.Text
    false (λ p vs. by_format date_text vs) refl (λ t vs a. values_fit date_text date_fits vs)
    (λ t vs a e. cc)

pub timestamp_lawful : LawfulRow timestamp_row
timestamp_lawful =
    strict_lawful (codes "sql.timestamp_to_char") (Exact 2) (Each (Within I64) Text Text)
    answer.Text false (λ p vs. by_format timestamp_text vs) refl
    (λ t vs a. values_fit timestamp_text timestamp_fits vs) (λ t vs a e. cc)
