-- Months added to a date or a timestamp, as PostgreSQL adds an interval of months to them.
use Rattle.std.specs.Prelude.{◌≡◌, ◌∷◌, ◌+ℤ◌, ◌*ℤ◌, ℤ, pos, [], List, Option, Some, None, codes, false, refl}
use Rattle.std.proofs.Common.{arith}
use Rattle.jiff_core.proofs.SignedLemmas.{signed_arith, int_rem_euclid-parts}
use Rattle.vortex_errors.specs.declared.arity.Arity.TheVariants.{Exact}
use Rattle.vortex_types.specs.declared.dtype.PType.{PType}
use Rattle.vortex_types.specs.declared.dtype.PType.TheVariants.{I32, I64}
use Rattle.vortex_types.specs.LogicalTypes.{integer_type}
use Rattle.vortex_types.specs.Values.{Value, number}
use Rattle.vortex_interface.specs.Outcomes.{Outcome, gives, GivesType}
use Rattle.vortex_sql_rows.specs.declared.faults.RowFault.TheVariants.{DateRange, OtherValues}
use Rattle.vortex_sql_rows.specs.declared.faults.RowFault.TheVariants.{TimestampRange}
use Rattle.vortex_sql_rows.specs.declared.types.Gives.TheVariants as answer
use Rattle.vortex_sql_rows.specs.declared.types.Kind.TheVariants.{Integer, Within}
use Rattle.vortex_sql_rows.specs.declared.types.Takes.TheVariants.{Each}
use Rattle.vortex_sql_rows.specs.Faults.{faults_by}
use Rattle.vortex_sql_rows.specs.Integers.{checked}
use Rattle.vortex_sql_rows.specs.Row.{Row, LawfulRow}
use Rattle.vortex_sql_rows.specs.Shapes.{both_fit, number_in, strict_lawful, strict_of, with_both}
use Rattle.vortex_sql_dates.specs.Instants.{day_of, time_of}
use Rattle.vortex_sql_dates.specs.LaterMonths.{later_range, months_later}
use Rattle.vortex_sql_dates.specs.StoredRows.{on_stored, stored}

abbrev pub day_or_fault : Option ℤ → Outcome
day_or_fault None = faults_by DateRange
day_or_fault (Some d) = gives (number d)

abbrev pub date_later : ℤ → ℤ → Outcome
date_later n z = day_or_fault (months_later z n)

abbrev pub date_months : ℤ → ℤ → Outcome
date_months z n = stored I32 (date_later n) z

-- the time of that day which is so many microseconds from its midnight
abbrev pub time_or_fault : ℤ → Option ℤ → Outcome
time_or_fault t None = faults_by TimestampRange
time_or_fault t (Some d) = gives (number (d *ℤ pos 86_400_000_000 +ℤ t))

abbrev pub timestamp_later : ℤ → ℤ → Outcome
timestamp_later n z = time_or_fault (pos (time_of z)) (months_later (day_of z) n)

abbrev pub timestamp_months : ℤ → ℤ → Outcome
timestamp_months z n = stored I64 (timestamp_later n) z

abbrev pub date_of : List Value → Outcome
date_of (v ∷ w ∷ []) = with_both date_months (number_in v) (number_in w)
date_of vs = faults_by OtherValues

abbrev pub timestamp_of : List Value → Outcome
timestamp_of (v ∷ w ∷ []) = with_both timestamp_months (number_in v) (number_in w)
timestamp_of vs = faults_by OtherValues

abbrev pub date_row : Row
date_row =
    strict_of (codes "sql.date_add_months") (Exact 2) (Each (Within I32) Integer Integer)
    (answer.Integer I32) false (λ p vs. date_of vs)

abbrev pub timestamp_row : Row
timestamp_row =
    strict_of (codes "sql.timestamp_add_months") (Exact 2) (Each (Within I64) Integer Integer)
    (answer.Integer I64) false (λ p vs. timestamp_of vs)

date_fits : (z n : ℤ) → GivesType (integer_type I32 false) (date_later n z)
date_fits z n = by (months_later z n) refl
  where
    by : (d : Option ℤ) → months_later z n ≡ d
        → GivesType (integer_type I32 false) (day_or_fault d)
    by None e = tt
    by (Some d) e =
        let range = later_range z n d e in
        (omega (arith, signed_arith, range.0), omega (arith, signed_arith, range.1))

timestamp_fits : (z n : ℤ) → GivesType (integer_type I64 false) (timestamp_later n z)
timestamp_fits z n = by (months_later (day_of z) n) refl
  where
    by : (d : Option ℤ) → months_later (day_of z) n ≡ d
        → GivesType (integer_type I64 false) (time_or_fault (pos (time_of z)) d)
    by None e = tt
    by (Some d) e =
        let range = later_range (day_of z) n d e in
        let time = int_rem_euclid-parts z 86_400_000_000 (omega arith) in (
          omega (arith, signed_arith, range.0, time),
          omega (arith, signed_arith, range.1, time),
        )

stored_fits : (r : PType) (f : ℤ → Outcome) → ((z : ℤ) → GivesType (integer_type r false) (f z))
    → (z : Option ℤ) → GivesType (integer_type r false) (on_stored f z)
stored_fits r f h None = tt
stored_fits r f h (Some z) = h z

dates_fit : (vs : List Value) → GivesType (integer_type I32 false) (date_of vs)
dates_fit (v ∷ w ∷ []) =
    both_fit (integer_type I32 false) date_months
    (λ z n. stored_fits I32 (date_later n) (λ y. date_fits y n) (checked I32 z)) (number_in v)
    (number_in w)
dates_fit [] = tt
dates_fit (v ∷ []) = tt
dates_fit (v ∷ w ∷ x ∷ vs) = tt

timestamps_fit : (vs : List Value) → GivesType (integer_type I64 false) (timestamp_of vs)
timestamps_fit (v ∷ w ∷ []) =
    both_fit (integer_type I64 false) timestamp_months
    (λ z n. stored_fits I64 (timestamp_later n) (λ y. timestamp_fits y n) (checked I64 z))
    (number_in v) (number_in w)
timestamps_fit [] = tt
timestamps_fit (v ∷ []) = tt
timestamps_fit (v ∷ w ∷ x ∷ vs) = tt

pub date_lawful : LawfulRow date_row
date_lawful =
    strict_lawful (codes "sql.date_add_months") (Exact 2) (Each (Within I32) Integer Integer)
    (answer.Integer I32) false (λ p vs. date_of vs) refl (λ t vs a. dates_fit vs)
    (λ t vs a e. cc)

pub timestamp_lawful : LawfulRow timestamp_row
timestamp_lawful =
    strict_lawful (codes "sql.timestamp_add_months") (Exact 2)
    (Each (Within I64) Integer Integer) (answer.Integer I64) false (λ p vs. timestamp_of vs) refl
    (λ t vs a. timestamps_fit vs) (λ t vs a e. cc)
