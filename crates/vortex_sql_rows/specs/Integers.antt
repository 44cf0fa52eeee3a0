-- Integers, each where its type has it.
use Rattle.std.specs.Prelude.{◌≡◌, ◌||◌, ℤ, Option, Some, None, Bool, true, false, not, int_lt}
use Rattle.std.specs.Prelude.{◌≤ℤ◌, if◌then◌else◌, refl}
use Rattle.std.proofs.Common.{cond, arith}
use Rattle.std.proofs.lemmas.Int.{ints}
use Rattle.vortex_checked.specs.Exact.{is_outside}
use Rattle.vortex_types.specs.declared.dtype.PType.{PType}
use Rattle.vortex_types.specs.LogicalTypes.{integer_type}
use Rattle.vortex_types.specs.Typing.{FitsPType, least_of, greatest_of}
use Rattle.vortex_types.specs.Values.{number}
use Rattle.vortex_interface.specs.Outcomes.{Outcome, gives, GivesType}
use Rattle.vortex_sql_rows.specs.declared.faults.RowFault.{RowFault}
use Rattle.vortex_sql_rows.specs.Faults.{faults_by}
use Rattle.vortex_sql_rows.specs.Laws.{and_left, and_right}
use Rattle.vortex_sql_rows.specs.Types.{is_in, has_all_of}

-- the number, where the type has it
abbrev pub checked : PType → ℤ → Option ℤ
checked p z = if is_in p z then Some z else None

-- the number, or a fault where there is none
abbrev pub int_or_fault : RowFault → Option ℤ → Outcome
int_or_fault f None = faults_by f
int_or_fault f (Some z) = gives (number z)

within : (l g z : ℤ) → not (is_outside l g z) ≡ true → (l ≤ℤ z) × (z ≤ℤ g)
within l g z e = by (int_lt z l) (int_lt g z) refl refl e
  where
    by : (p q : Bool) → int_lt z l ≡ p → int_lt g z ≡ q → not (p || q) ≡ true
        → (l ≤ℤ z) × (z ≤ℤ g)
    by true q a b f = cc
    by false true a b f = cc
    by false false a b f = (omega (arith, ints, a), omega (arith, ints, b))

pub in_range : (p : PType) (z : ℤ) → is_in p z ≡ true → FitsPType p z
in_range p z e = within (least_of p) (greatest_of p) z e

-- a checked number has the type
pub checked_fits : (f : RowFault) (p : PType) (z : ℤ)
    → GivesType (integer_type p false) (int_or_fault f (checked p z))
checked_fits f p z = by (is_in p z) refl
  where
    by : (b : Bool) → is_in p z ≡ b
        → GivesType (integer_type p false) (int_or_fault f (cond b (Some z) None))
    by true e = in_range p z e
    by false e = tt

-- and so has each number of a type that lies within it
pub wide_fits : (p q : PType) (z : ℤ) → has_all_of p q ≡ true → FitsPType q z → FitsPType p z
wide_fits p q z e h =
    let least = in_range p (least_of q) (and_left _ _ e) in
    let greatest = in_range p (greatest_of q) (and_right (is_in p (least_of q)) _ e) in
    (omega (arith, ints, least.0, h.0), omega (arith, ints, greatest.1, h.1))
