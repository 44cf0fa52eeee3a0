-- Whole numbers where truth values are taken: whether they are not 0.
use Rattle.std.specs.Prelude.{Option, Some, None, Bool, true, false, if◌then◌else◌}
use Rattle.vortex_types.specs.LogicalTypes.{LogicalType, integer_type}
use Rattle.vortex_interface.specs.Eval.{tree_type}
use Rattle.vortex_standard.specs.declared.standard.Standard.TheVariants as standard
use Rattle.vortex_expressions.specs.Literals.{Literal, number}
use Rattle.vortex_expressions.specs.Outcomes.{Outcome, answers, and_then}
use Rattle.vortex_expressions.specs.Items.{Item, literal, bound, Tree, meaning, made_by, settled}
use Rattle.vortex_expressions.specs.Items.{truth_type}

-- a whole number, cast to a truth value; any other tree is unchanged
abbrev pub typed_truth : Option LogicalType → Tree → Outcome Item
typed_truth (Some (integer_type p n)) t = made_by standard.IntToTruth t
typed_truth o t = answers (bound t)

abbrev pub tree_truth : Tree → Outcome Item
tree_truth t = typed_truth (tree_type meaning t) t

abbrev pub is_number_literal : Literal → Bool
is_number_literal (number w) = true
is_number_literal l = false

abbrev pub literal_truth : Literal → Outcome Item
literal_truth l =
    if is_number_literal l then and_then (settled None (literal l)) tree_truth else answers (literal l)

-- an operand of AND, OR and NOT, and a condition: a number is cast
abbrev pub as_truth : Item → Outcome Item
as_truth (literal l) = literal_truth l
as_truth (bound t) = tree_truth t
as_truth i = answers i

-- the tree of a condition
abbrev pub truth_settled : Item → Outcome Tree
truth_settled i = and_then (as_truth i) (settled truth_type)
