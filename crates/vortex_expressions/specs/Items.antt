-- Literals without a type yet, and trees; and calls of them.
use Rattle.std.specs.Prelude.{ℕ, ℤ, List, [], ◌∷◌, length, map, Option, Some, None, is_some}
use Rattle.std.specs.Prelude.{Bool, true, false, if◌then◌else◌, string_bytes}
use Rattle.std.specs.Option.{option_or}
use Rattle.std.specs.Str.{is_utf8}
use Rattle.vortex_errors.specs.declared.error.MismatchPlace.{MismatchPlace}
use Rattle.vortex_errors.specs.declared.error.MismatchPlace.TheVariants.{Scalars}
use Rattle.vortex_errors.specs.declared.error.VortexError.TheVariants.{ArityMismatch, TypeMismatch}
use Rattle.vortex_types.specs.declared.dtype.PType.{PType}
use Rattle.vortex_types.specs.declared.dtype.PType.TheVariants.{I64}
use Rattle.vortex_types.specs.LogicalTypes.{LogicalType, bool_type, integer_type}
use Rattle.vortex_interface.specs.Meaning.{Meaning, fits}
use Rattle.vortex_interface.specs.Shipped.{shipped_place}
use Rattle.vortex_interface.specs.Functions.{Function, ours, custom, function_arity}
use Rattle.vortex_interface.specs.Trees as trees
use Rattle.vortex_interface.specs.Trees.{constant, call, trees_of}
use Rattle.vortex_interface.specs.Eval.{tree_type, tree_types, types_or_none}
use Rattle.vortex_interface.specs.declared.options.EmptyOptions.{EmptyOptions}
use Rattle.vortex_logical.specs.declared.kind.Kind.{Kind}
use Rattle.vortex_logical.specs.declared.kind.Kind.TheVariants.{F64}
use Rattle.vortex_standard.specs.Standard.{standard_meaning}
use Rattle.vortex_standard.specs.declared.standard.Standard.{Standard}
use Rattle.vortex_standard.specs.declared.standard.Standard.TheVariants as standard
use Rattle.vortex_expressions.specs.declared.item.Item as held
use Rattle.vortex_expressions.specs.declared.item.Item.TheVariants as variant
use Rattle.vortex_expressions.specs.declared.item.Timespan.{Timespan}
use Rattle.vortex_expressions.specs.declared.refusal.Refusal.TheVariants.{UntypedNull, NotHeld}
use Rattle.vortex_expressions.specs.declared.refusal.Refusal.TheVariants.{NotUtf8}
use Rattle.vortex_expressions.specs.declared.refusal.Refusal.TheVariants.{Binding, OfKind}
use Rattle.vortex_expressions.specs.Literals.{Literal, literal_in, own_type, type_beside, value_at}
use Rattle.vortex_expressions.specs.Literals.{number}
use Rattle.vortex_expressions.specs.Meeting.{meeting_type, widened_to}
use Rattle.vortex_expressions.specs.Outcomes.{Outcome, answers, refuses, missing, and_then}
use Rattle.vortex_expressions.specs.Outcomes.{or_refuses}

-- trees and functions, with SQL's
abbrev pub Tree : Type 0
Tree = trees.Tree Standard EmptyOptions

abbrev pub Callable : Type 0
Callable = Function Standard EmptyOptions

abbrev pub meaning : Meaning Standard EmptyOptions
meaning = standard_meaning

-- one of SQL's functions
abbrev pub callable : Standard → Callable
callable f = custom f (record {})

-- literal: without a type yet
-- bound: a tree
-- kinded: a tree of the stored integers of a kind
-- fraction: a number with a point or an exponent, where columns have kinds
-- interval: so many microseconds or months, or how long it is from one timestamp to another
pub data Item : Type 0 where
  literal : Literal → Item
  bound : Tree → Item
  kinded : Kind → Tree → Item
  fraction : List ℕ → Item
  interval : Timespan → Item

abbrev pub item_in : held.Item → Item
item_in (variant.Literal l) = literal (literal_in l)
item_in (variant.Bound t) = bound t
item_in (variant.Kinded k t) = kinded k t
item_in (variant.Fraction w) = fraction (string_bytes w)
item_in (variant.Interval z) = interval z

-- the bytes of a text
abbrev pub text_of : List ℕ → Outcome (List ℕ)
text_of bs = if is_utf8 bs then answers bs else refuses NotUtf8

-- the type of a tree, and the default type of a literal
abbrev pub bound_type : Item → Option LogicalType
bound_type (literal l) = None
bound_type (bound t) = tree_type meaning t
bound_type (kinded k t) = None
bound_type (fraction w) = None
bound_type (interval z) = None

abbrev pub literal_type : Item → Option LogicalType
literal_type (literal l) = own_type l
literal_type (bound t) = None
literal_type (kinded k t) = None
literal_type (fraction w) = None
literal_type (interval z) = None

abbrev pub is_numeral : Item → Bool
is_numeral (literal (number w)) = true
is_numeral i = false

-- the default type of a literal number, or else the one before, or else that of a literal
abbrev pub next_literal : Option LogicalType → Item → Option LogicalType
next_literal o i =
    if is_numeral i then Some (integer_type I64 false) else option_or o (literal_type i)

abbrev pub literals_type : Option LogicalType → List Item → Option LogicalType
literals_type o [] = o
literals_type o (i ∷ is) = literals_type (next_literal o i) is

-- the type of items next to each other: that in which the trees meet, or without a tree that of a
-- literal number, or else of the first literal with a default type
abbrev pub common_type : List Item → Option LogicalType
common_type is = option_or (meeting_type None (map bound_type is)) (literals_type None is)

-- with And, Or and Not, and as a condition, null is a truth value
abbrev pub truth_type : Option LogicalType
truth_type = Some (bool_type false)

-- the value of a literal in that type
abbrev pub constant_at : Literal → LogicalType → Outcome Tree
constant_at l t = and_then (or_refuses NotHeld (value_at t l)) (λ s. answers (constant s))

-- the result becomes an item
abbrev pub as_item : Outcome Tree → Outcome Item
as_item o = and_then o (λ t. answers (bound t))

-- E3 at that place; a function without one accepts all types
abbrev pub refused_at : Option MismatchPlace → Outcome Tree
refused_at None = missing
refused_at (Some p) = refuses (Binding (TypeMismatch p))

abbrev pub place_of : Callable → List LogicalType → Option MismatchPlace
place_of (ours f) ts = shipped_place f ts
place_of (custom f o) ts = Some Scalars

-- a count of trees that does not fit: texts call shipped functions with as many as they take
abbrev pub unfit : Callable → ℕ → Outcome Tree
unfit (ours f) n = missing
unfit (custom f o) n = refuses (Binding (ArityMismatch (function_arity meaning (custom f o)) n))

-- the call of a function on trees of types that it takes
abbrev pub call_of : Callable → List Tree → Outcome Tree
call_of f ts =
    if fits (function_arity meaning f) (length ts)
    then (if is_some (tree_type meaning (call f (trees_of ts))) then answers (call f (trees_of ts))
    else refused_at (place_of f (types_or_none (tree_types meaning (trees_of ts)))))
    else unfit f (length ts)

-- what one of SQL's functions makes of a tree
abbrev pub made_by : Standard → Tree → Outcome Item
made_by f t = as_item (call_of (callable f) (t ∷ []))

-- a tree, cast to the type if there is one; no row faults
abbrev pub widened : Option PType → Tree → Outcome Tree
widened None a = answers a
widened (Some p) a = call_of (callable (standard.Widen (record { ptype = p }))) (a ∷ [])

-- a tree of the second type where items take the first
abbrev pub meeting : Option LogicalType → Option LogicalType → Tree → Outcome Tree
meeting (Some t) (Some u) a = widened (widened_to t u) a
meeting o p a = answers a

-- where items take that type, a tree is cast to it if it is a wider integer type, and a literal
-- takes it; a value of a kind has none, and a number with a fraction is a float
abbrev pub settled : Option LogicalType → Item → Outcome Tree
settled o (bound a) = meeting o (tree_type meaning a) a
settled o (kinded k a) = refuses (OfKind k)
settled o (fraction w) = refuses (OfKind F64)
settled o (interval z) = refuses NotHeld
settled o (literal l) = and_then (or_refuses UntypedNull (type_beside o l)) (constant_at l)

-- all of them, from left to right
abbrev pub all_settled : Option LogicalType → List Item → Outcome (List Tree)
all_settled o [] = answers []
all_settled o (i ∷ is) =
    and_then (settled o i) (λ t. and_then (all_settled o is) (λ ts. answers (t ∷ ts)))

-- the call on these, which take that type
abbrev pub called : Callable → Option LogicalType → List Item → Outcome Tree
called f o is = and_then (all_settled o is) (call_of f)
