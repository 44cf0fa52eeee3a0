-- The remainder, with the dividend's sign; a fault where the divisor is zero.
use Rattle.std.specs.Prelude.{codes, Bool, true, false, ℤ, pos, int_rem, if◌then◌else◌, refl}
use Rattle.std.specs.Prelude.{Option, Some, None}
use Rattle.std.specs.Ordering.{int_eq}
use Rattle.std.specs.Int.Signed.{mag_rem}
use Rattle.std.proofs.Common.{cond, arith}
use Rattle.std.proofs.lemmas.Int.{ints}
use Rattle.vortex_types.specs.declared.dtype.PType.{PType}
use Rattle.vortex_types.specs.LogicalTypes.{integer_type}
use Rattle.vortex_types.specs.Typing.{FitsPType}
use Rattle.vortex_interface.specs.Outcomes.{Outcome, GivesType}
use Rattle.vortex_sql_rows.specs.declared.faults.RowFault.TheVariants.{ZeroDivisor}
use Rattle.vortex_sql_rows.specs.declared.types.Gives.TheVariants as answer
use Rattle.vortex_sql_rows.specs.declared.types.Kind.TheVariants.{Integer}
use Rattle.vortex_sql_rows.specs.declared.types.Takes.TheVariants.{Alike}
use Rattle.vortex_sql_rows.specs.Integers.{int_or_fault}
use Rattle.vortex_sql_rows.specs.Row.{Row, LawfulRow}
use Rattle.vortex_sql_rows.specs.Shapes.{strict_row, two_ints, two_ints_lawful}

-- there is none by zero
abbrev pub rest_by : ℤ → ℤ → Option ℤ
rest_by a b = if int_eq b (pos 0) then None else Some (int_rem a b)

abbrev pub remainder : PType → ℤ → ℤ → Outcome
remainder p a b = int_or_fault ZeroDivisor (rest_by a b)

abbrev pub remainder_row : Row
remainder_row =
    strict_row (codes "sql.mod") 2 (Alike Integer) answer.Alike false (two_ints remainder)

-- the remainder lies between zero and the dividend
fits_rem : (p : PType) (a b : ℤ) → FitsPType p a → FitsPType p (int_rem a b)
fits_rem p a b h = by a b h
  where
    by : (a b : ℤ) → FitsPType p a → FitsPType p (int_rem a b)
    by a b h = grind (arith, ints, h.0, h.1, mag_rem a b)

given : (c : Bool) (p : PType) (z : ℤ) → FitsPType p z
    → GivesType (integer_type p false) (int_or_fault ZeroDivisor (cond c None (Some z)))
given true p z h = tt
given false p z h = h

pub remainder_lawful : LawfulRow remainder_row
remainder_lawful =
    two_ints_lawful (codes "sql.mod") Integer answer.Alike false refl tt remainder
    (λ p n a b h k. given (int_eq b (pos 0)) p (int_rem a b) (fits_rem p a b h))
    (λ p a b e h k. cc)
