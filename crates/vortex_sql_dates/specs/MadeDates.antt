-- The date of a year, a month and a day, as PostgreSQL's `make_date` has it in the years 1 to 9999.
use Rattle.std.specs.Prelude.{◌≡◌, ◌∷◌, ◌&&◌, ◌||◌, ◌≤◌, ◌≤ℤ◌, ℕ, ℤ, [], Bool, List, Option, Some}
use Rattle.std.specs.Prelude.{None, codes, false, true, if◌then◌else◌, int_lt, nat_eq, nat_le, negsuc}
use Rattle.std.specs.Prelude.{pos, refl, unsigned_abs}
use Rattle.std.proofs.Common.{arith, cond}
use Rattle.std.proofs.lemmas.Bool.Decides.{nat_tests}
use Rattle.std.proofs.lemmas.Int.{ints}
use Rattle.jiff_core.specs.Calendar.{IsCivilDate, days_from_civil, days_in_month}
use Rattle.jiff_core.proofs.DateLemmas.{epoch_day_range}
use Rattle.jiff_core.proofs.SignedLemmas.{signed_arith}
use Rattle.vortex_errors.specs.declared.arity.Arity.TheVariants.{Exact}
use Rattle.vortex_types.specs.declared.dtype.PType.TheVariants.{I32}
use Rattle.vortex_types.specs.LogicalTypes.{integer_type}
use Rattle.vortex_types.specs.Values.{Value, number}
use Rattle.vortex_interface.specs.Outcomes.{Outcome, GivesType, custom, faults, gives}
use Rattle.vortex_sql_rows.specs.declared.faults.RowFault.TheVariants.{OtherValues}
use Rattle.vortex_sql_rows.specs.declared.types.Gives.TheVariants as answer
use Rattle.vortex_sql_rows.specs.declared.types.Kind.TheVariants.{Integer}
use Rattle.vortex_sql_rows.specs.declared.types.Takes.TheVariants.{Each}
use Rattle.vortex_sql_rows.specs.Faults.{faults_by}
use Rattle.vortex_sql_rows.specs.Laws.{and_left, and_right}
use Rattle.vortex_sql_rows.specs.Row.{Row, LawfulRow}
use Rattle.vortex_sql_rows.specs.Shapes.{number_in, strict_lawful, strict_of, three_fit, with_three}
use Rattle.vortex_sql_dates.specs.CountedLaws.{date_of}

-- the number, if it is one from 1 to the greatest
abbrev pub from_one : ℕ → ℤ → Option ℕ
from_one n z = if int_lt z (pos 1) || int_lt (pos n) z then None else Some (unsigned_abs z)

-- whether the calendar has the day
abbrev pub is_civil : ℕ → ℕ → ℕ → Bool
is_civil y m d =
    nat_le 1 m && (nat_le m 12 && (nat_le 1 d && nat_le d (days_in_month (pos y) m)))

-- its days since 1970-01-01
abbrev pub day_number : ℕ → ℕ → ℕ → Option ℤ
day_number y m d = if is_civil y m d then Some (days_from_civil (pos y) m d) else None

abbrev pub day_of : Option ℕ → Option ℕ → Option ℕ → Option ℤ
day_of (Some y) (Some m) (Some d) = day_number y m d
day_of y m d = None

-- the number that E10 has where there is none: that behind those of rows and of roots
abbrev pub no_date_number : ℕ
no_date_number = 30

-- PostgreSQL's words
abbrev pub no_date_text : ℕ → Option (List ℕ)
no_date_text n =
    if nat_eq n no_date_number then Some (codes "date field value out of range") else None

abbrev pub date_or_fault : Option ℤ → Outcome
date_or_fault None = faults (custom no_date_number)
date_or_fault (Some z) = gives (number z)

-- the date of a year from 1 to 9999, a month and a day
abbrev pub made_date : ℤ → ℤ → ℤ → Outcome
made_date y m d = date_or_fault (day_of (from_one 9999 y) (from_one 12 m) (from_one 31 d))

abbrev pub make_date : List Value → Outcome
make_date (v ∷ w ∷ x ∷ []) = with_three made_date (number_in v) (number_in w) (number_in x)
make_date vs = faults_by OtherValues

abbrev pub make_date_row : Row
make_date_row =
    strict_of (codes "sql.date_from_parts") (Exact 3) (Each Integer Integer Integer)
    (answer.Integer I32) false (λ p vs. make_date vs)

at_most : (n : ℕ) (z : ℤ) (k : ℕ) → from_one n z ≡ Some k → k ≤ n
at_most n (pos m) k e = by (int_lt (pos m) (pos 1)) (int_lt (pos n) (pos m)) refl refl e
  where
    by : (p q : Bool) → int_lt (pos m) (pos 1) ≡ p → int_lt (pos n) (pos m) ≡ q
        → cond (p || q) None (Some m) ≡ Some k → k ≤ n
    by true q a b f = cc
    by false true a b f = cc
    by false false a b f =
        let same : m ≡ k = cc in
        let high : pos m ≤ℤ pos n = omega (arith, ints, b) in
        omega (arith, signed_arith, same, high)
at_most n (negsuc m) k e = cc

below : (m n : ℕ) → nat_le m n ≡ true → m ≤ n
below m n h = grind (arith, nat_tests)

civil_is : (y m d : ℕ) → y ≤ 9999 → is_civil y m d ≡ true → IsCivilDate (pos y) m d
civil_is y m d h e =
    let days = days_in_month (pos y) m in
    let second = and_right (nat_le 1 m) _ e in
    let third = and_right (nat_le m 12) _ second in (
      (omega (arith, signed_arith, h), omega (arith, signed_arith, h)),
      (below 1 m (and_left (nat_le 1 m) _ e), below m 12 (and_left (nat_le m 12) _ second)),
      (below 1 d (and_left (nat_le 1 d) _ third), below d days (and_right (nat_le 1 d) _ third)),
    )

number_fits : (y m d : ℕ) → y ≤ 9999
    → GivesType (integer_type I32 false) (date_or_fault (day_number y m d))
number_fits y m d h = by (is_civil y m d) refl
  where
    by : (b : Bool) → is_civil y m d ≡ b
        → GivesType (integer_type I32 false)
        (date_or_fault (cond b (Some (days_from_civil (pos y) m d)) None))
    by true e =
        let range = epoch_day_range (date_of (record { year = pos y; month = m; day = d })
        (civil_is y m d h e)) in
        (omega (arith, signed_arith, range.0), omega (arith, signed_arith, range.1))
    by false e = tt

date_fits : (y m d : ℤ) → GivesType (integer_type I32 false) (made_date y m d)
date_fits y m d = by (from_one 9999 y) (from_one 12 m) (from_one 31 d) refl
  where
    by : (a b c : Option ℕ) → from_one 9999 y ≡ a
        → GivesType (integer_type I32 false) (date_or_fault (day_of a b c))
    by (Some k) (Some n) (Some i) e = number_fits k n i (at_most 9999 y k e)
    by None b c e = tt
    by (Some k) None c e = tt
    by (Some k) (Some n) None e = tt

make_date_fits : (vs : List Value) → GivesType (integer_type I32 false) (make_date vs)
make_date_fits (v ∷ w ∷ x ∷ []) =
    three_fit (integer_type I32 false) made_date date_fits (number_in v) (number_in w)
    (number_in x)
make_date_fits [] = tt
make_date_fits (v ∷ []) = tt
make_date_fits (v ∷ w ∷ []) = tt
make_date_fits (v ∷ w ∷ x ∷ y ∷ vs) = tt

pub make_date_lawful : LawfulRow make_date_row
make_date_lawful =
    strict_lawful (codes "sql.date_from_parts") (Exact 3) (Each Integer Integer Integer)
    (answer.Integer I32) false (λ p vs. make_date vs) refl (λ t vs a. make_date_fits vs)
    (λ t vs a e. cc)
