-- Functions of one float of 64 bits, over the integer that stands for it. None but the root faults.
use Rattle.std.specs.Prelude.{◌≡◌, codes, get_or, ℕ, ℤ, List, Bool, true, false, refl}
use Rattle.std.specs.Prelude.{if◌then◌else◌}
use Rattle.std.specs.Float.{Float, binary64}
use Rattle.std.proofs.Common.{T, cond, subst, sym}
use lib.Ieee.{fits}
use Rattle.vortex_types.specs.declared.dtype.PType.TheVariants.{I64}
use Rattle.vortex_types.specs.LogicalTypes.{integer_type}
use Rattle.vortex_interface.specs.Outcomes.{Outcome, faults, custom, GivesType, GivesValue}
use Rattle.vortex_logical.specs.FloatKeys.{float_of_key}
use Rattle.vortex_sql_rows.specs.declared.types.Gives.TheVariants as answer
use Rattle.vortex_sql_rows.specs.declared.types.Kind.TheVariants.{Within}
use Rattle.vortex_sql_rows.specs.declared.types.Takes.TheVariants.{Alike}
use Rattle.vortex_sql_rows.specs.Integers.{checked}
use Rattle.vortex_sql_rows.specs.Row.{Row, LawfulRow}
use Rattle.vortex_sql_rows.specs.Shapes.{strict_row, one_int, one_int_lawful}
use Rattle.vortex_sql_floats.specs.FloatOutcomes.{gives_float, on_key}
use Rattle.vortex_sql_floats.specs.FloatFits.{read_fits}
use Rattle.vortex_sql_floats.specs.KeyRanges.{float_fits, is_checked, on_key_fits}
use Rattle.vortex_sql_floats.specs.KeyRanges.{one_key_lawful}
use Rattle.vortex_sql_float_functions.specs.declared.functions.FloatFunction.{FloatFunction}
use Rattle.vortex_sql_float_functions.specs.declared.functions.FloatFunction.TheVariants as function
use Rattle.vortex_sql_float_functions.specs.FloatFunctions.{applied, lacks_root}
use Rattle.vortex_sql_float_functions.specs.FunctionFits.{applied_fits}
use Rattle.vortex_sql_float_functions.specs.RootFaults.{root_number}

abbrev pub of_float : FloatFunction → Float → Outcome
of_float f x = if lacks_root f x then faults (custom root_number) else gives_float (applied f x)

abbrev pub of_key : FloatFunction → ℤ → Outcome
of_key f k = of_float f (float_of_key binary64 k)

-- of an integer of 64 bits
abbrev pub of_number : FloatFunction → ℤ → Outcome
of_number f z = on_key (of_key f) (checked I64 z)

abbrev pub is_total : FloatFunction → Bool
is_total function.Sqrt = false
is_total f = true

abbrev pub function_id : FloatFunction → List ℕ
function_id function.Round = codes "sql.float_round"
function_id function.Floor = codes "sql.float_floor"
function_id function.Ceil = codes "sql.float_ceil"
function_id function.Trunc = codes "sql.float_trunc"
function_id function.Sqrt = codes "sql.float_sqrt"
function_id function.Abs = codes "sql.float_abs"
function_id function.Sign = codes "sql.float_sign"

abbrev pub function_row : FloatFunction → Row
function_row f =
    strict_row (function_id f) 1 (Alike (Within I64)) (answer.Integer I64) (is_total f)
    (one_int (λ p. of_number f))

unless_fits : (b : Bool) (x : Float) → T (fits binary64 x)
    → GivesType (integer_type I64 false) (cond b (faults (custom root_number)) (gives_float x))
unless_fits true x h = tt
unless_fits false x h = float_fits x h

key_typed : (f : FloatFunction) (k : ℤ) → GivesType (integer_type I64 false) (of_key f k)
key_typed f k =
    let x = float_of_key binary64 k in
    unless_fits (lacks_root f x) (applied f x) (applied_fits f x (read_fits binary64 k))

typed : (f : FloatFunction) (z : ℤ) → GivesType (integer_type I64 false) (of_number f z)
typed f z = on_key_fits (integer_type I64 false) (of_key f) (key_typed f) (checked I64 z)

-- a function that lacks no root
module _ (f : FloatFunction) (named : get_or (function_id f) 0 0 ≡ 115)
    (total : (k : ℤ) → GivesValue (of_key f k)) where
  without_faults : LawfulRow (strict_row (function_id f) 1 (Alike (Within I64))
      (answer.Integer I64) true (one_int (λ p. of_number f)))
  without_faults =
      one_key_lawful (function_id f) I64 named (of_number f) (typed f)
      (λ z h. subst (λ o. GivesValue (on_key (of_key f) o)) (sym (is_checked I64 z h)) (total z))

pub function_lawful : (f : FloatFunction) → LawfulRow (function_row f)
function_lawful function.Sqrt =
    one_int_lawful (function_id function.Sqrt) (Within I64) (answer.Integer I64) false refl tt
    (λ p. of_number function.Sqrt) (λ p n z k h. typed function.Sqrt z) (λ p z e h. cc)
function_lawful function.Round = without_faults function.Round refl (λ k. tt)
function_lawful function.Floor = without_faults function.Floor refl (λ k. tt)
function_lawful function.Ceil = without_faults function.Ceil refl (λ k. tt)
function_lawful function.Trunc = without_faults function.Trunc refl (λ k. tt)
function_lawful function.Abs = without_faults function.Abs refl (λ k. tt)
function_lawful function.Sign = without_faults function.Sign refl (λ k. tt)
