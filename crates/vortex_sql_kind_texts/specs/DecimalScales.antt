-- Numbers as decimals with more digits after the point, if they have digits enough.
use Rattle.std.specs.Prelude.{◌≡◌, ◌≤◌, ◌<◌, ◌∷◌, ◌^◌, ℕ, ℤ, pos, negsuc, [], List, Option, Some}
use Rattle.std.specs.Prelude.{None, Bool, true, false, codes, nat_lt, refl, unsigned_abs}
use Rattle.std.proofs.Common.{arith, cond}
use Rattle.std.proofs.lemmas.Bool.Decides.{nat_tests}
use Rattle.std.proofs.lemmas.Int.{ints}
use Rattle.vortex_errors.specs.declared.arity.Arity.TheVariants.{Exact}
use Rattle.vortex_types.specs.declared.dtype.PType.TheVariants.{I64}
use Rattle.vortex_types.specs.LogicalTypes.{integer_type}
use Rattle.vortex_types.specs.Typing.{FitsPType}
use Rattle.vortex_types.specs.Values.{Value}
use Rattle.vortex_interface.specs.Outcomes.{Outcome, GivesType}
use Rattle.vortex_logical.specs.Decimals.{shifted, within_digits}
use Rattle.vortex_logical.specs.Digits.{Digits}
use Rattle.vortex_sql_rows.specs.declared.faults.RowFault.TheVariants as fault
use Rattle.vortex_sql_rows.specs.declared.types.Gives.TheVariants as answer
use Rattle.vortex_sql_rows.specs.declared.types.Kind.TheVariants.{Integer}
use Rattle.vortex_sql_rows.specs.declared.types.Takes.TheVariants.{Each}
use Rattle.vortex_sql_rows.specs.Faults.{faults_by}
use Rattle.vortex_sql_rows.specs.Integers.{int_or_fault}
use Rattle.vortex_sql_rows.specs.Row.{Row, LawfulRow}
use Rattle.vortex_sql_rows.specs.Shapes.{number_in, strict_lawful, strict_of, three_fit, with_three}
use Rattle.vortex_sql_kind_texts.specs.StoredRows.{on_taken, from_to, digits_in, ten_bound}
use Rattle.vortex_sql_kind_texts.specs.StoredRows.{precision_bound}

-- z times ten to the power k, if a decimal of these digits has it
abbrev pub places_added : ℤ → ℕ → Digits → Outcome
places_added z k d = int_or_fault fault.DecimalDigits (within_digits d.precision (shifted z k))

-- of a precision from 1 to 18
abbrev pub with_precision : ℤ → ℤ → ℕ → Outcome
with_precision z p k = on_taken (places_added z k) (digits_in p (pos 0))

abbrev pub scale_number : ℤ → ℤ → ℤ → Outcome
scale_number z k p = on_taken (with_precision z p) (from_to 0 18 k)

-- of a number, the places to add, and the precision
abbrev pub scaled_of : List Value → Outcome
scaled_of (v ∷ w ∷ x ∷ []) = with_three scale_number (number_in v) (number_in w) (number_in x)
scaled_of vs = faults_by fault.OtherValues

abbrev pub scaled_row : Row
scaled_row =
    strict_of (codes "sql.decimal_scaled") (Exact 3) (Each Integer Integer Integer)
    (answer.Integer I64) false (λ p vs. scaled_of vs)

small_fits : (z : ℤ) → unsigned_abs z < 1000000000000000000 → FitsPType I64 z
small_fits (pos n) h = (omega (arith, ints, h), omega (arith, ints, h))
small_fits (negsuc n) h = (omega (arith, ints, h), omega (arith, ints, h))

pub digits_fit : (p : ℕ) (z : ℤ) → p ≤ 18
    → GivesType (integer_type I64 false) (int_or_fault fault.DecimalDigits (within_digits p z))
digits_fit p z h = by (nat_lt (unsigned_abs z) (10 ^ p)) refl
  where
    by : (b : Bool) → nat_lt (unsigned_abs z) (10 ^ p) ≡ b
        → GivesType (integer_type I64 false)
        (int_or_fault fault.DecimalDigits (cond b (Some z) None))
    by true e = small_fits z (grind (arith, nat_tests, e, ten_bound p h))
    by false e = tt

added_fits : (z p : ℤ) (k : ℕ) → GivesType (integer_type I64 false) (with_precision z p k)
added_fits z p k = by (digits_in p (pos 0)) refl
  where
    by : (d : Option Digits) → digits_in p (pos 0) ≡ d
        → GivesType (integer_type I64 false) (on_taken (places_added z k) d)
    by None e = tt
    by (Some d) e = digits_fit d.precision (shifted z k) (precision_bound p (pos 0) d e)

number_fits : (z k p : ℤ) → GivesType (integer_type I64 false) (scale_number z k p)
number_fits z k p = by (from_to 0 18 k)
  where
    by : (n : Option ℕ) → GivesType (integer_type I64 false) (on_taken (with_precision z p) n)
    by None = tt
    by (Some n) = added_fits z p n

scaled_fits : (vs : List Value) → GivesType (integer_type I64 false) (scaled_of vs)
scaled_fits (v ∷ w ∷ x ∷ []) =
    three_fit (integer_type I64 false) scale_number number_fits (number_in v) (number_in w)
    (number_in x)
scaled_fits [] = tt
scaled_fits (v ∷ []) = tt
scaled_fits (v ∷ w ∷ []) = tt
scaled_fits (v ∷ w ∷ x ∷ y ∷ vs) = tt

pub scaled_lawful : LawfulRow scaled_row
scaled_lawful =
    strict_lawful (codes "sql.decimal_scaled") (Exact 3) (Each Integer Integer Integer)
    (answer.Integer I64) false (λ p vs. scaled_of vs) refl (λ t vs a. scaled_fits vs)
    (λ t vs a e. cc)
