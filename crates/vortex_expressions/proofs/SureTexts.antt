-- Values as their texts are trees with a type, or are refused.
use Rattle.std.proofs.Common.{List, [], ◌∷◌, Option, Some, None}
use Rattle.vortex_types.specs.LogicalTypes.{LogicalType, integer_type, bool_type}
use Rattle.vortex_interface.specs.Eval.{tree_type}
use Rattle.vortex_logical_casts.specs.Casts.{written_steps}
use Rattle.vortex_standard.specs.declared.standard.Standard.{Standard}
use Rattle.vortex_standard.specs.declared.standard.Standard.TheVariants as standard
use Rattle.vortex_expressions.specs.Literals.{Literal}
use Rattle.vortex_expressions.specs.Outcomes.{and_then}
use Rattle.vortex_expressions.specs.Items.{Item, literal, bound, kinded, fraction, interval, Tree}
use Rattle.vortex_expressions.specs.Items.{meaning, callable, call_of, settled, made_by}
use Rattle.vortex_expressions.specs.Joining.{typed_text, tree_text, is_text, as_text, as_texts}
use Rattle.vortex_expressions.proofs.SureCalls.{Sure, sure_then, sure_if, IsTyped, IsItem, AllItems}
use Rattle.vortex_expressions.proofs.SureCalls.{sure_named_call, sure_item, sure_settled}
use Rattle.vortex_expressions.proofs.SureKinds.{sure_from_kind}

pub sure_made_by : (f : Standard) (t : Tree) → Sure IsItem (made_by f t)
sure_made_by f t = sure_item (call_of (callable f) (t ∷ [])) (sure_named_call f (t ∷ []))

sure_typed_text : (o : Option LogicalType) (t : Tree) → IsTyped t → Sure IsItem (typed_text o t)
sure_typed_text (Some (integer_type p n)) t h = sure_made_by standard.IntToText t
sure_typed_text (Some (bool_type n)) t h = sure_made_by standard.TruthToText t
sure_typed_text o t h = h

sure_settled_text : (l : Literal) → IsItem (literal l)
    → Sure IsItem (and_then (settled None (literal l)) tree_text)
sure_settled_text l h =
    sure_then IsTyped IsItem (settled None (literal l)) tree_text (sure_settled None (literal l) h)
    (λ t j. sure_typed_text (tree_type meaning t) t j)

pub sure_as_text : (i : Item) → IsItem i → Sure IsItem (as_text i)
sure_as_text (literal l) h = sure_if IsItem (is_text l) _ _ h (sure_settled_text l h)
sure_as_text (bound t) h = sure_typed_text (tree_type meaning t) t h
sure_as_text (kinded k t) h = sure_from_kind k (written_steps k) t
sure_as_text (fraction w) h = h
sure_as_text (interval z) h = h

pub sure_as_texts : (is : List Item) → AllItems is → Sure AllItems (as_texts is)
sure_as_texts [] h = tt
sure_as_texts (i ∷ is) h =
    sure_then IsItem AllItems (as_text i) _ (sure_as_text i h.0)
    (λ j k. sure_then AllItems AllItems (as_texts is) _ (sure_as_texts is h.1)
    (λ js l. (k, l)))
