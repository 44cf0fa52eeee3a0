-- The result of a rule for a tree of either kind at its root, and what it keeps.
use Rattle.std.specs.Prelude.{Option, None}
use Rattle.vortex_interface.specs.Meaning.{Meaning, Lawful}
use Rattle.vortex_interface.specs.Trees.{Tree}
use Rattle.vortex_interface.specs.Rules.{Rules}
use Rattle.vortex_interface.specs.ReduceRules.{reduce}
use Rattle.vortex_interface.specs.SimplifyRules.{simplify}
use Rattle.vortex_interface.specs.Rewrites.{IsSound, LawfulRules}
use Rattle.vortex_interface.specs.Weights.{Lightens}
use Rattle.vortex_interface.proofs.Driving.{simplify_is_sound, reduce_is_sound}
use Rattle.vortex_interface.proofs.LighterReduced.{reduce_lightens}
use Rattle.vortex_interface.proofs.LighterSimplified.{simplify_lightens}
use Rattle.vortex_rewriting.specs.declared.rule.Rule.{Rule}
use Rattle.vortex_rewriting.specs.declared.rule.Rule.TheVariants.{Simplify, Reduce}

module _ {V O : Type 0} (m : Meaning V O) (r : Rules V O) where
  abbrev pub expression_rule : Rule → Tree V O → Option (Tree V O)
  expression_rule Simplify t = simplify m r t
  expression_rule Reduce t = reduce m r t

  -- array trees are not simplified
  abbrev pub array_rule : Rule → Tree V O → Option (Tree V O)
  array_rule Simplify t = None
  array_rule Reduce t = reduce m r t

  module _ (lawful : Lawful m) where
    pub expression_lightens : (rule : Rule) → Lightens m (expression_rule rule)
    expression_lightens Simplify = simplify_lightens m r lawful
    expression_lightens Reduce = reduce_lightens m r lawful

    pub array_lightens : (rule : Rule) → Lightens m (array_rule rule)
    array_lightens Simplify = λ t u k h s e. cc
    array_lightens Reduce = reduce_lightens m r lawful

    module _ (lawful_rules : LawfulRules m r) where
      pub expression_sound : (rule : Rule) → IsSound m (expression_rule rule)
      expression_sound Simplify = simplify_is_sound m lawful r lawful_rules
      expression_sound Reduce = reduce_is_sound m lawful r lawful_rules

      pub array_sound : (rule : Rule) → IsSound m (array_rule rule)
      array_sound Simplify = λ t u k h e. cc
      array_sound Reduce = reduce_is_sound m lawful r lawful_rules
