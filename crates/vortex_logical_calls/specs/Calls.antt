-- Calls of functions on trees, and what operands become next to each other.
use Rattle.std.specs.Prelude.{List, [], ◌∷◌, length, is_some, if◌then◌else◌}
use Rattle.vortex_interface.specs.Meaning.{Meaning, fits}
use Rattle.vortex_interface.specs.Functions.{Function, custom, function_arity}
use Rattle.vortex_interface.specs.Trees as trees
use Rattle.vortex_interface.specs.Trees.{call, trees_of}
use Rattle.vortex_interface.specs.Eval.{tree_type}
use Rattle.vortex_interface.specs.declared.options.EmptyOptions.{EmptyOptions}
use Rattle.vortex_standard.specs.Standard.{standard_meaning}
use Rattle.vortex_standard.specs.declared.standard.Standard.{Standard}
use Rattle.vortex_lowering.specs.Rows as rows
use Rattle.vortex_logical_calls.specs.Outcomes.{Outcome, made, untyped}

-- trees over SQL's functions, and with what their values are
abbrev pub Tree : Type 0
Tree = trees.Tree Standard EmptyOptions

abbrev pub Lowered : Type 0
Lowered = rows.Lowered Standard EmptyOptions

abbrev pub meaning : Meaning Standard EmptyOptions
meaning = standard_meaning

-- the tree, if it has a type
abbrev pub typed : Tree → Outcome Tree
typed t = if is_some (tree_type meaning t) then made t else untyped

-- the call of a function on trees
abbrev pub call_on : Function Standard EmptyOptions → List Tree → Outcome Tree
call_on f ts =
    if fits (function_arity meaning f) (length ts) then typed (call f (trees_of ts)) else untyped

-- of one of SQL's functions
abbrev pub call_one : Standard → Tree → Outcome Tree
call_one f t = call_on (custom f (record {})) (t ∷ [])

abbrev pub call_two : Standard → Tree → Tree → Outcome Tree
call_two f t u = call_on (custom f (record {})) (t ∷ u ∷ [])
