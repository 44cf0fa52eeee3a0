-- Literals as they are written, and the types that they take.
use Rattle.std.specs.Prelude.{ℕ, List, Bool, true, false, Option, Some, None, codes}
use Rattle.std.specs.Prelude.{if◌then◌else◌, ◌||◌, ◌==◌, string_bytes}
use Rattle.std.specs.List.{list_any}
use Rattle.vortex_types.specs.declared.dtype.PType.TheVariants.{I64}
use Rattle.vortex_types.specs.LogicalTypes.{LogicalType, bool_type, integer_type, text_type}
use Rattle.vortex_types.specs.LogicalTypes.{with_nullability, is_bool_type, is_integer_type}
use Rattle.vortex_types.specs.LogicalTypes.{is_text_type}
use Rattle.vortex_types.specs.ScalarView.{ScalarView}
use Rattle.vortex_types.specs.Values as value
use Rattle.vortex_cells.specs.CellValues.{literal_of_cell}
use Rattle.vortex_expressions.specs.declared.literal.Literal as held
use Rattle.vortex_expressions.specs.declared.literal.Literal.TheVariants as variant

-- number: digits, optionally after a minus sign
-- text: without its quotes
pub data Literal : Type 0 where
  number : List ℕ → Literal
  text : List ℕ → Literal
  truth : Bool → Literal
  null : Literal

abbrev pub literal_in : held.Literal → Literal
literal_in (variant.Number w) = number (string_bytes w)
literal_in (variant.Text bs) = text (string_bytes bs)
literal_in (variant.Truth b) = truth b
literal_in variant.Null = null

-- a number has a fraction if there is a point or an exponent
abbrev pub is_fractional : ℕ → Bool
is_fractional b = (b == 46) || (b == 69) || (b == 101)

abbrev pub has_fraction : List ℕ → Bool
has_fraction w = list_any is_fractional w

-- the default type of a literal; null has none
abbrev pub own_type : Literal → Option LogicalType
own_type (number w) = Some (integer_type I64 false)
own_type (text bs) = Some (text_type false)
own_type (truth b) = Some (bool_type false)
own_type null = None

-- a number takes an integer type, without null
abbrev pub number_type : LogicalType → LogicalType
number_type t = if is_integer_type t then with_nullability t false else integer_type I64 false

-- a text takes an integer type, too
abbrev pub text_type_beside : LogicalType → LogicalType
text_type_beside t = if is_integer_type t then with_nullability t false else text_type false

-- the type of a literal next to a value of a type: a number and a text take an integer type, and null
-- takes any; null alone is a text
abbrev pub type_beside : Option LogicalType → Literal → Option LogicalType
type_beside (Some t) (number w) = Some (number_type t)
type_beside (Some t) (text bs) = Some (text_type_beside t)
type_beside (Some t) null = Some t
type_beside None null = Some (text_type false)
type_beside o l = own_type l

-- the literal has values of the type as it is written
abbrev pub suits : Literal → LogicalType → Bool
suits (number w) t = is_integer_type t
suits (text bs) t = is_text_type t || is_integer_type t
suits (truth b) t = is_bool_type t
suits null t = true

abbrev pub truth_word : Bool → List ℕ
truth_word b = if b then codes "true" else codes "false"

-- the value of a literal in a type, if it has one; null makes the type nullable
abbrev pub value_at : LogicalType → Literal → Option ScalarView
value_at t (number w) = if is_integer_type t then literal_of_cell t (Some w) else None
value_at t (text bs) =
    if is_text_type t || is_integer_type t then literal_of_cell t (Some bs) else None
value_at t (truth b) = if is_bool_type t then literal_of_cell t (Some (truth_word b)) else None
value_at t null = Some (record { dtype = with_nullability t true; value = value.null })
