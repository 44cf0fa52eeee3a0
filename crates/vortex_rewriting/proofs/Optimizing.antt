-- The driver's rule is sound and makes trees lighter, so a run of its steps is a rewrite, and has
-- fewer steps than the weight of the tree.
use Rattle.std.proofs.Common.{◌≡◌, ℕ, ◌<◌, Option, Some, ◌∙◌, subst, sym}
use Rattle.std.specs.Prelude.{IsSome}
use Rattle.vortex_types.specs.LogicalTypes.{LogicalType}
use Rattle.vortex_interface.specs.Meaning.{Meaning}
use Rattle.vortex_interface.specs.Trees.{Tree}
use Rattle.vortex_interface.specs.Eval.{tree_type}
use Rattle.vortex_interface.specs.Rewrites.{IsSound, Rewrites}
use Rattle.vortex_interface.specs.Weights.{weight, OnlyShipped, IsLighter, Lightens}
use Rattle.vortex_interface.specs.Driver.{Runs}
use Rattle.vortex_interface.proofs.Driving.{first_sound, runs_sound}
use Rattle.vortex_interface.proofs.Lightening.{first_lightens, runs_lighter, runs_bound}
use Rattle.vortex_rewriting.specs.declared.rule.Rule.{Rule}
use Rattle.vortex_rewriting.specs.declared.rule.Rule.TheVariants.{Simplify, Reduce}
use Rattle.vortex_rewriting.specs.Driving.{first_rule}
use Rattle.vortex_rewriting.proofs.FrameWalks.{some_is}

module _ {V O : Type 0} (m : Meaning V O) (applied : Rule → Tree V O → Option (Tree V O)) where
  pub first_rule_sound : ((rule : Rule) → IsSound m (applied rule)) → IsSound m (first_rule applied)
  first_rule_sound sound =
      first_sound m (applied Simplify) (applied Reduce) (sound Simplify) (sound Reduce)

  pub first_rule_lightens : ((rule : Rule) → Lightens m (applied rule))
      → Lightens m (first_rule applied)
  first_rule_lightens lightens =
      first_lightens m (applied Simplify) (applied Reduce) (lightens Simplify) (lightens Reduce)

  module _ (rule : Tree V O → Option (Tree V O)) (is : rule ≡ first_rule applied) where
    pub rule_sound : ((r : Rule) → IsSound m (applied r)) → IsSound m rule
    rule_sound sound = subst (IsSound m) (sym is) (first_rule_sound sound)

    pub rule_lightens : ((r : Rule) → Lightens m (applied r)) → Lightens m rule
    rule_lightens lightens = subst (Lightens m) (sym is) (first_rule_lightens lightens)

module _ {V O : Type 0} (m : Meaning V O) (rule : Tree V O → Option (Tree V O)) (n : ℕ)
    (t u : Tree V O) (k : LogicalType) (h : tree_type m t ≡ Some k) (run : Runs rule n t u) where
  pub run_rewrites : IsSound m rule → Rewrites m t u
  run_rewrites sound = runs_sound m rule sound n t u k h run

  pub run_typed : IsSound m rule → IsSome (tree_type m u)
  run_typed sound = some_is (tree_type m u) k ((run_rewrites sound).dtype ∙ h)

  pub run_lighter : Lightens m rule → OnlyShipped t → IsLighter m n t u
  run_lighter lightens shipped = runs_lighter m rule lightens n t u k h shipped run

  pub run_fewer : Lightens m rule → OnlyShipped t → n < weight m t
  run_fewer lightens shipped = runs_bound m rule lightens n t u k h shipped run
