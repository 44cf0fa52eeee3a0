-- Arguments of SQL's functions, and the types that nulls without one have there.
use Rattle.std.specs.Prelude.{List, [], ◌∷◌, Bool, true, false, Option, Some, None}
use Rattle.std.specs.Prelude.{if◌then◌else◌}
use Rattle.std.specs.List.{list_all}
use Rattle.vortex_types.specs.declared.dtype.PType.TheVariants.{I64}
use Rattle.vortex_types.specs.LogicalTypes.{LogicalType, bool_type, integer_type}
use Rattle.vortex_sql_rows.specs.declared.types.Kind.{Kind}
use Rattle.vortex_sql_rows.specs.declared.types.Kind.TheVariants.{Any, Truth, Integer, Within, Text}
use Rattle.vortex_expressions.specs.Literals.{null}
use Rattle.vortex_expressions.specs.Outcomes.{Outcome, answers, and_then}
use Rattle.vortex_expressions.specs.Items.{Item, literal, Tree, common_type, settled, all_settled}

-- the type of null where a value of that kind is taken; that of texts is the default
abbrev pub type_of_null : Kind → Option LogicalType
type_of_null Any = None
type_of_null Truth = Some (bool_type false)
type_of_null Integer = Some (integer_type I64 false)
type_of_null (Within p) = Some (integer_type p false)
type_of_null Text = None

abbrev pub is_null : Item → Bool
is_null (literal null) = true
is_null i = false

-- an argument of that kind
abbrev pub settled_at : Kind → Item → Outcome Tree
settled_at k i = settled (if is_null i then type_of_null k else None) i

-- the first of its kind, the second of its, and all others of the last
abbrev pub each_settled : Kind → Kind → Kind → List Item → Outcome (List Tree)
each_settled a b c [] = answers []
each_settled a b c (i ∷ is) =
    and_then (settled_at a i) (λ t. and_then (each_settled b c c is) (λ ts. answers (t ∷ ts)))

-- the type that arguments take which are alike
abbrev pub alike_type : Kind → List Item → Option LogicalType
alike_type k is = if list_all is_null is then type_of_null k else common_type is

abbrev pub alike_settled : Kind → List Item → Outcome (List Tree)
alike_settled k is = all_settled (alike_type k is) is
