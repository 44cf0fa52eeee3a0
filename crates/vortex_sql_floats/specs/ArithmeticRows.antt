-- `+`, `-`, `*` and `/` over the integers that stand for floats of 64 bits.
use Rattle.std.specs.Prelude.{◌≡◌, codes, get_or, Option, Some, None, ℕ, ℤ, List, false, refl}
use Rattle.std.specs.Float.{Float, binary64}
use Rattle.std.proofs.Common.{T}
use lib.Ieee.{fits}
use lib.Ieee.Fits.{add-fits, sub-fits, mul-fits, div-fits}
use Rattle.vortex_types.specs.declared.dtype.PType.TheVariants.{I64}
use Rattle.vortex_types.specs.LogicalTypes.{integer_type}
use Rattle.vortex_interface.specs.Outcomes.{Outcome, GivesType}
use Rattle.vortex_logical.specs.FloatKeys.{float_of_key}
use Rattle.vortex_sql_rows.specs.declared.types.Gives.TheVariants as answer
use Rattle.vortex_sql_rows.specs.declared.types.Kind.TheVariants.{Within}
use Rattle.vortex_sql_rows.specs.declared.types.Takes.TheVariants.{Alike}
use Rattle.vortex_sql_rows.specs.Integers.{checked}
use Rattle.vortex_sql_rows.specs.Row.{Row, LawfulRow}
use Rattle.vortex_sql_rows.specs.Shapes.{strict_row, two_ints, two_ints_lawful, with_both, both_fit}
use Rattle.vortex_sql_rows.specs.declared.faults.RowFault.{RowFault}
use Rattle.vortex_sql_floats.specs.declared.floats.FloatOperator.{FloatOperator}
use Rattle.vortex_sql_floats.specs.declared.floats.FloatOperator.TheVariants.{Add, Subtract}
use Rattle.vortex_sql_floats.specs.declared.floats.FloatOperator.TheVariants.{Multiply, Divide}
use Rattle.vortex_sql_floats.specs.FloatArithmetic.{applied, fault_by}
use Rattle.vortex_sql_floats.specs.FloatOutcomes.{gives_unless}
use Rattle.vortex_sql_floats.specs.KeyRanges.{float_fits}

abbrev pub operated_floats : FloatOperator → Float → Float → Outcome
operated_floats op x y = gives_unless (fault_by op x y) (applied op x y)

abbrev pub operated : FloatOperator → ℤ → ℤ → Outcome
operated op a b = operated_floats op (float_of_key binary64 a) (float_of_key binary64 b)

-- of two integers of 64 bits
abbrev pub arithmetic : FloatOperator → ℤ → ℤ → Outcome
arithmetic op a b = with_both (operated op) (checked I64 a) (checked I64 b)

abbrev pub operator_id : FloatOperator → List ℕ
operator_id Add = codes "sql.float_add"
operator_id Subtract = codes "sql.float_subtract"
operator_id Multiply = codes "sql.float_multiply"
operator_id Divide = codes "sql.float_divide"

abbrev pub operator_row : FloatOperator → Row
operator_row op =
    strict_row (operator_id op) 2 (Alike (Within I64)) (answer.Integer I64) false
    (two_ints (λ p. arithmetic op))

operator_named : (op : FloatOperator) → get_or (operator_id op) 0 0 ≡ 115
operator_named Add = refl
operator_named Subtract = refl
operator_named Multiply = refl
operator_named Divide = refl

applied_fits : (op : FloatOperator) (x y : Float) → T (fits binary64 (applied op x y))
applied_fits Add x y = add-fits binary64 x y
applied_fits Subtract x y = sub-fits binary64 x y
applied_fits Multiply x y = mul-fits binary64 x y
applied_fits Divide x y = div-fits binary64 x y

unless_fits : (f : Option RowFault) (x : Float) → T (fits binary64 x)
    → GivesType (integer_type I64 false) (gives_unless f x)
unless_fits (Some f) x h = tt
unless_fits None x h = float_fits x h

pub operator_lawful : (op : FloatOperator) → LawfulRow (operator_row op)
operator_lawful op =
    two_ints_lawful (operator_id op) (Within I64) (answer.Integer I64) false (operator_named op) tt
    (λ p. arithmetic op)
    (λ p n a b h k.
    both_fit (integer_type I64 false) (operated op)
    (λ c d.
    unless_fits (fault_by op (float_of_key binary64 c) (float_of_key binary64 d))
    (applied op (float_of_key binary64 c) (float_of_key binary64 d))
    (applied_fits op (float_of_key binary64 c) (float_of_key binary64 d)))
    (checked I64 a) (checked I64 b))
    (λ p a b e h k. cc)
