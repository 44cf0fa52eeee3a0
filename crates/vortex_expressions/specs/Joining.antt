-- Values that are joined to texts, each as its text.
use Rattle.std.specs.Prelude.{List, [], ◌∷◌, Bool, true, false, Option, Some, None}
use Rattle.std.specs.Prelude.{if◌then◌else◌}
use Rattle.vortex_types.specs.LogicalTypes.{LogicalType, integer_type, bool_type}
use Rattle.vortex_interface.specs.Eval.{tree_type}
use Rattle.vortex_logical_casts.specs.Casts.{written_steps}
use Rattle.vortex_standard.specs.declared.standard.Standard.{Standard}
use Rattle.vortex_standard.specs.declared.standard.Standard.TheVariants as standard
use Rattle.vortex_expressions.specs.Literals.{Literal, text, null}
use Rattle.vortex_expressions.specs.Outcomes.{Outcome, answers, and_then}
use Rattle.vortex_expressions.specs.Items.{Item, literal, bound, kinded, Tree, meaning, as_item}
use Rattle.vortex_expressions.specs.Items.{made_by, settled}
use Rattle.vortex_expressions.specs.Applied.{function_call}
use Rattle.vortex_expressions.specs.KindCasts.{from_kind}

-- a whole number or a truth value as its text
abbrev pub typed_text : Option LogicalType → Tree → Outcome Item
typed_text (Some (integer_type p n)) t = made_by standard.IntToText t
typed_text (Some (bool_type n)) t = made_by standard.TruthToText t
typed_text o t = answers (bound t)

abbrev pub tree_text : Tree → Outcome Item
tree_text t = typed_text (tree_type meaning t) t

-- texts stay, and null
abbrev pub is_text : Literal → Bool
is_text (text bs) = true
is_text null = true
is_text l = false

abbrev pub literal_text : Literal → Outcome Item
literal_text l =
    if is_text l then answers (literal l) else and_then (settled None (literal l)) tree_text

abbrev pub as_text : Item → Outcome Item
as_text (literal l) = literal_text l
as_text (bound t) = tree_text t
as_text (kinded k t) = from_kind k (written_steps k) t
as_text i = answers i

abbrev pub as_texts : List Item → Outcome (List Item)
as_texts [] = answers []
as_texts (i ∷ is) = and_then (as_text i) (λ j. and_then (as_texts is) (λ js. answers (j ∷ js)))

-- functions that make one text of several
abbrev pub joins : Standard → Bool
joins standard.ConcatAll = true
joins standard.ConcatWs = true
joins f = false

abbrev pub joined_texts : Standard → List Item → Outcome Item
joined_texts f is = and_then (as_texts is) (λ js. as_item (function_call f js))
