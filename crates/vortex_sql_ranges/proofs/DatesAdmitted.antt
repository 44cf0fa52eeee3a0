-- The laws of the ranges of functions of dates and timestamps.
use Rattle.std.specs.Prelude.{◌≡◌, ℤ, pos, ◌*ℤ◌, codes, Bool, true, false, Some, None, refl}
use Rattle.std.proofs.Common.{arith, cond, subst, sym}
use Rattle.std.proofs.lemmas.Int.{ints}
use Rattle.jiff_core.proofs.SignedLemmas.{signed_arith}
use Rattle.vortex_types.specs.declared.dtype.PType.{PType}
use Rattle.vortex_types.specs.declared.dtype.PType.TheVariants.{I32, I64}
use Rattle.vortex_types.specs.Typing.{FitsPType}
use Rattle.vortex_types.specs.Values.{number}
use Rattle.vortex_interface.specs.Outcomes.{Outcome, gives, GivesValue}
use Rattle.vortex_sql_dates.specs.declared.parts.Part.{Part}
use Rattle.vortex_sql_dates.specs.declared.parts.Part.TheVariants as part
use Rattle.vortex_sql_dates.specs.Casts.{beginning, beginning_lawful, day_in, day_lawful}
use Rattle.vortex_sql_dates.specs.Instants.{day_of, time_of}
use Rattle.vortex_sql_dates.specs.Parts.{part_of, date_part, date_part_id}
use Rattle.vortex_sql_dates.specs.Parts.{timestamp_part, timestamp_part_id}
use Rattle.vortex_sql_dates.specs.PartLaws.{date_part_lawful, timestamp_part_lawful}
use Rattle.vortex_sql_dates.specs.Truncations.{date_trunc, date_trunc_id, date_trunc_lawful}
use Rattle.vortex_sql_dates.specs.Truncations.{first_day, first_instant, timestamp_trunc}
use Rattle.vortex_sql_dates.specs.Truncations.{timestamp_trunc_id, timestamp_trunc_lawful}
use Rattle.vortex_sql_rows.specs.declared.faults.RowFault.TheVariants.{IntegerOutOfRange}
use Rattle.vortex_sql_rows.specs.Integers.{checked, in_range, int_or_fault}
use Rattle.vortex_sql_rows.specs.Types.{is_in}
use Rattle.vortex_sql_ranges.specs.DatesSound.{AdmitDates}
use Rattle.vortex_sql_ranges.specs.Monotone.{is_monotone}
use Rattle.vortex_sql_ranges.proofs.MonotoneAdmits.{IsMonotone, Told, is_checked, monotone-calls}
use Rattle.vortex_sql_ranges.proofs.PartsRise.{date_years_never_fall, date_seconds_never_fall}
use Rattle.vortex_sql_ranges.proofs.PartsRise.{instant_years_never_fall}
use Rattle.vortex_sql_ranges.proofs.PartsRise.{instant_seconds_never_fall, days_never_fall}
use Rattle.vortex_sql_ranges.proofs.Steps.{NeverFalls}
use Rattle.vortex_sql_ranges.proofs.TruncationsRise.{first_days_never_fall}
use Rattle.vortex_sql_ranges.proofs.TruncationsRise.{first_instants_never_fall}

-- what returns each number
plain : (g : ℤ → ℤ) → NeverFalls g → IsMonotone true (λ z. gives (number (g z)))
plain g falls = record {
  g = g;
  falls = falls;
  told = λ z. refl;
  settled = λ e z. tt;
  between = λ a z b h k v w. tt;
}

-- and what returns those that a type has
module _ (p : PType) (g : ℤ → ℤ) (falls : NeverFalls g) where
  abbrev f : ℤ → Outcome
  f z = int_or_fault IntegerOutOfRange (checked p (g z))

  checked_told : (z : ℤ) → Told (f z) (g z)
  checked_told z = by (is_in p (g z))
    where
      by : (b : Bool) → Told (int_or_fault IntegerOutOfRange (cond b (Some (g z)) None)) (g z)
      by true = refl
      by false = tt

  value_fits : (z : ℤ) → GivesValue (f z) → FitsPType p (g z)
  value_fits z v = by (is_in p (g z)) refl v
    where
      by : (b : Bool) → is_in p (g z) ≡ b
          → GivesValue (int_or_fault IntegerOutOfRange (cond b (Some (g z)) None))
          → FitsPType p (g z)
      by true e v = in_range p (g z) e
      by false e v = absurd v

  fit_gives : (z : ℤ) → FitsPType p (g z) → GivesValue (f z)
  fit_gives z h =
      subst (λ o. GivesValue (int_or_fault IntegerOutOfRange o)) (sym (is_checked p (g z) h)) tt

  narrowing : IsMonotone false f
  narrowing = record {
    g = g;
    falls = falls;
    told = checked_told;
    settled = λ e z. cc;
    between = λ a z b h k v w.
        fit_gives z
        (omega (arith, ints, (value_fits a v).0, falls a z h), omega (arith, ints, (value_fits b w).1, falls z b k));
  }

of_date : (p : Part) → is_monotone p ≡ true → IsMonotone true (date_part p)
of_date part.Year e = plain (λ z. part_of part.Year z 0) date_years_never_fall
of_date part.Epoch e = plain (λ z. part_of part.Epoch z 0) date_seconds_never_fall
of_date p e = cc

of_timestamp : (p : Part) → is_monotone p ≡ true → IsMonotone true (timestamp_part p)
of_timestamp part.Year e =
    plain (λ z. part_of part.Year (day_of z) (time_of z)) instant_years_never_fall
of_timestamp part.Epoch e =
    plain (λ z. part_of part.Epoch (day_of z) (time_of z)) instant_seconds_never_fall
of_timestamp p e = cc

beginnings : NeverFalls (λ z. z *ℤ pos 86_400_000_000)
beginnings a b h = omega (arith, signed_arith, h)

pub dates_admitted : AdmitDates
dates_admitted = record {
  date_parts = λ p e.
      monotone-calls (date_part_id p) I32 I64 true (date_part p) (of_date p e)
      (date_part_lawful p);
  timestamp_parts = λ p e.
      monotone-calls (timestamp_part_id p) I64 I64 true (timestamp_part p) (of_timestamp p e)
      (timestamp_part_lawful p);
  date_truncations = λ u.
      monotone-calls (date_trunc_id u) I32 I32 false (date_trunc u)
      (narrowing I32 (first_day u) (first_days_never_fall u)) (date_trunc_lawful u);
  timestamp_truncations = λ u.
      monotone-calls (timestamp_trunc_id u) I64 I64 false (timestamp_trunc u)
      (narrowing I64 (first_instant u) (first_instants_never_fall u)) (timestamp_trunc_lawful u);
  to_timestamps =
      monotone-calls (codes "sql.date_to_timestamp") I32 I64 false beginning
      (narrowing I64 (λ z. z *ℤ pos 86_400_000_000) beginnings) beginning_lawful;
  to_dates =
      monotone-calls (codes "sql.timestamp_to_date") I64 I32 true day_in
      (plain day_of days_never_fall) day_lawful;
}
