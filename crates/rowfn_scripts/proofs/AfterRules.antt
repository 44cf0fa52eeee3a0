-- What the tree after a run of rules keeps of a tree of a session.
use Rattle.std.proofs.Common.{◌≡◌, ℕ, true, Option, Some, None, List, refl, ap, ◌∙◌}
use Rattle.std.specs.Option.{is_some}
use Rattle.vortex_errors.specs.declared.error.VortexError.{VortexError}
use Rattle.vortex_types.specs.LogicalTypes.{LogicalType}
use Rattle.vortex_columns.specs.ColumnView.{ColumnView}
use Rattle.vortex_interface.specs.Meaning.{Meaning, Lawful}
use Rattle.vortex_interface.specs.Rules.{Rules}
use Rattle.vortex_interface.specs.Trees.{Tree}
use Rattle.vortex_interface.specs.Eval.{tree_type}
use Rattle.vortex_interface.specs.Execution.{LeavesFit, other_length, unfit, uneven}
use Rattle.vortex_interface.specs.Rewrites.{Rewrites, IsSound, LawfulRules}
use Rattle.vortex_interface.specs.Weights.{Lightens}
use Rattle.vortex_interface.specs.Driver.{RunsTo}
use Rattle.vortex_interface.specs.Running.{IsFaultAfter, RefusesAfter, misfit, faulty}
use Rattle.vortex_interface.proofs.Driving.{runs_sound}
use Rattle.vortex_interface.proofs.Lightening.{runs_lighter}
use Rattle.vortex_rewriting.specs.Rules.{expression_rule, expression_sound, expression_lightens}
use Rattle.vortex_rewriting.specs.Runs.{expression_step}
use Rattle.vortex_rewriting.proofs.Optimizing.{first_rule_sound, first_rule_lightens}
use Rattle.rowfn_scripts.specs.Fitting.{HasText}
use Rattle.rowfn_scripts.proofs.Shown.{of_text, text_of}

pub the_type : (o : Option LogicalType) → is_some o ≡ true → (t : LogicalType) × (o ≡ Some t)
the_type None h = cc
the_type (Some t) h = (t, refl)

-- the driver's rule makes rewrites, and makes trees of shipped functions lighter
pub record AreSound {V O : Type 0} (m : Meaning V O) (rs : Rules V O) : Type 0 where
  pub sound : IsSound m (expression_step m rs)
  pub lightens : Lightens m (expression_step m rs)

pub are_sound : {V O : Type 0} {m : Meaning V O} {rs : Rules V O} → Lawful m → LawfulRules m rs
    → AreSound m rs
are_sound {m = m} {rs = rs} lawful rules_lawful = record {
  sound = first_rule_sound m (expression_rule m rs) (expression_sound m rs lawful rules_lawful);
  lightens = first_rule_lightens m (expression_rule m rs) (expression_lightens m rs lawful);
}

module _ {V O : Type 0} (m : Meaning V O) (rs : Rules V O) where
  module _ (laws : AreSound m rs) (limit : ℕ) (t u : Tree V O)
      (run : RunsTo (expression_step m rs) limit t u) (typed : is_some (tree_type m t) ≡ true) where
    pub rewritten : Rewrites m t u
    rewritten =
        let k = the_type (tree_type m t) typed in
        runs_sound m (expression_step m rs) laws.sound run.0 t u k.0 k.1 run.2

    pub rewritten_typed : is_some (tree_type m u) ≡ true
    rewritten_typed = ap is_some rewritten.dtype ∙ typed

    pub rewritten_shown : HasText t → HasText u
    rewritten_shown h =
        let k = the_type (tree_type m t) typed in
        let parts = of_text t h in
        let lighter =
        runs_lighter m (expression_step m rs) laws.lightens run.0 t u k.0 k.1 parts.1 run.2 in
        text_of u (rewritten.asks.places parts.0) lighter.shipped

  -- over columns that match, a tree fails only with a fault
  pub refuses_fault : (cs : List ColumnView) (n limit : ℕ) (t : Tree V O) (e : VortexError)
      → other_length n cs ≡ None → LeavesFit cs t
      → RefusesAfter m cs n (expression_step m rs) limit t e
      → IsFaultAfter m cs n (expression_step m rs) limit t e
  refuses_fault cs n limit t e counted fit (misfit (unfit misses is)) = absurd (misses fit)
  refuses_fault cs n limit t e counted fit (misfit (uneven l h other is)) = cc
  refuses_fault cs n limit t e counted fit (faulty h lengths fault) = fault
