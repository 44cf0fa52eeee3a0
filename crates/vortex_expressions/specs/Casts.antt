-- Casts: which function each is.
use Rattle.std.specs.Prelude.{[], ◌∷◌, Bool, true, false, Option, Some, None, if◌then◌else◌}
use Rattle.std.specs.Option.{option_map}
use Rattle.vortex_types.specs.declared.dtype.PType.{PType}
use Rattle.vortex_types.specs.LogicalTypes.{LogicalType, bool_type, integer_type, text_type}
use Rattle.vortex_types.specs.LogicalTypes.{is_bool_type, is_nullable}
use Rattle.vortex_types.specs.TypeEquality.{alike_types}
use Rattle.vortex_interface.specs.Shipped.{Cast}
use Rattle.vortex_interface.specs.Functions.{ours}
use Rattle.vortex_interface.specs.Eval.{tree_type}
use Rattle.vortex_standard.specs.declared.standard.Standard.{Standard}
use Rattle.vortex_standard.specs.declared.standard.Standard.TheVariants as standard
use Rattle.vortex_sql_rows.specs.Types.{has_all_of}
use Rattle.vortex_expressions.specs.declared.refusal.Refusal.TheVariants.{NoCast}
use Rattle.vortex_expressions.specs.Outcomes.{Outcome, answers, refuses, and_then}
use Rattle.vortex_expressions.specs.Literals as literals
use Rattle.vortex_expressions.specs.Items.{Item, literal, Tree, meaning, settled, called, call_of}
use Rattle.vortex_expressions.specs.Applied.{callable}

-- to an integer type: where it has every number of the other, no row faults
abbrev pub integer_cast : PType → PType → Standard
integer_cast q p =
    if has_all_of p q then standard.Widen (record { ptype = p })
    else standard.Cast (record { ptype = p })

-- casts that can fault, and what gives null there
abbrev pub tried : Standard → Standard
tried (standard.Cast c) = standard.TryCast c
tried (standard.TextToInt c) = standard.TryTextToInt c
tried standard.TextToTruth = standard.TryTextToTruth
tried f = f

abbrev pub tried_if : Bool → Standard → Standard
tried_if p f = if p then tried f else f

-- the function from one type to another without null
abbrev pub cast_function : LogicalType → LogicalType → Option Standard
cast_function (integer_type q n) (integer_type p false) = Some (integer_cast q p)
cast_function (bool_type n) (integer_type p false) =
    Some (standard.TruthToInt (record { ptype = p }))
cast_function (integer_type q n) (bool_type false) = Some standard.IntToTruth
cast_function (integer_type q n) (text_type false) = Some standard.IntToText
cast_function (bool_type n) (text_type false) = Some standard.TruthToText
cast_function (text_type n) (integer_type p false) =
    Some (standard.TextToInt (record { ptype = p }))
cast_function (text_type n) (bool_type false) = Some standard.TextToTruth
cast_function t u = None

abbrev pub cast_by : Option Standard → Tree → Outcome Tree
cast_by None a = refuses NoCast
cast_by (Some f) a = call_of (callable f) (a ∷ [])

-- a tree of the first type, cast to the second; of that type it is unchanged
abbrev pub cast_from : Bool → Option LogicalType → LogicalType → Tree → Outcome Tree
cast_from p None u a = refuses NoCast
cast_from p (Some t) u a =
    if alike_types t u then answers a
    else cast_by (option_map (tried_if p) (cast_function t u)) a

abbrev pub cast_tree : Bool → LogicalType → Tree → Outcome Tree
cast_tree p u a = cast_from p (tree_type meaning a) u a

-- the type that a literal takes: the one to which it is cast, but a text, which is cast in each row, and
-- by `try_cast`, where a number that the type does not hold is null, only null
abbrev pub cast_hint : Bool → Item → LogicalType → Option LogicalType
cast_hint p (literal (literals.text bs)) u = None
cast_hint false i u = Some u
cast_hint true (literal literals.null) u = Some u
cast_hint true i u = None

-- the nullable type of truth values comes from truth values alone; null is kept by every cast
abbrev pub cast_to : Bool → Item → LogicalType → Outcome Tree
cast_to p i u =
    if is_nullable u then
    (if is_bool_type u then called (ours Cast) (Some u) (i ∷ []) else refuses NoCast)
    else and_then (settled (cast_hint p i u) i) (cast_tree p u)
