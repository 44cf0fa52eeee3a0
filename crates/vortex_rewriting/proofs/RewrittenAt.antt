-- A property that a rule's result at a place keeps.
use Rattle.std.proofs.Common.{◌≡◌, ℕ, ◌<◌, List, Option, Some, None, Ok, Err, IfOk}
use Rattle.std.specs.Prelude.{Result, IfSome}
use Rattle.vortex_errors.specs.declared.error.VortexError.{VortexError}
use Rattle.vortex_types.specs.LogicalTypes.{LogicalType}
use Rattle.vortex_interface.specs.Meaning.{Meaning}
use Rattle.vortex_interface.specs.Trees.{Tree}
use Rattle.vortex_interface.specs.Eval.{tree_type}
use Rattle.vortex_interface.specs.Rewrites.{Rewrites, IsSound}
use Rattle.vortex_interface.specs.Weights.{weight, OnlyShipped, IsLighter, Lightens}
use Rattle.vortex_interface.proofs.Driving.{rewritten_sound}
use Rattle.vortex_interface.proofs.Lightening.{rewritten_lighter, fewer}
use Rattle.vortex_rewriting.specs.Rewriting.{AnswersRewritten}

module _ {V O T : Type 0} (m : Meaning V O) (tree_in : T → Tree V O)
    (rule : Tree V O → Option (Tree V O)) (path : List ℕ) (t : Tree V O) (k : LogicalType)
    (typed : tree_type m t ≡ Some k) where
  pub record KeepsAt (result : Result (Option T) VortexError) : Type 0 where
    pub kept : IfOk result (λ answer. IfSome answer (λ made. Rewrites m t (tree_in made)))
    pub lighter : IfOk result (λ answer. IfSome answer
        (λ made. OnlyShipped t → IsLighter m 1 t (tree_in made)))
    pub fewer : IfOk result (λ answer. IfSome answer (λ made. OnlyShipped t → 1 < weight m t))

  -- one rewrite is fewer than the weight
  pub keeps_at : IsSound m rule → Lightens m rule → (result : Result (Option T) VortexError)
      → AnswersRewritten tree_in rule path t result → KeepsAt result
  keeps_at sound lightens (Err e) h = record { kept = tt; lighter = tt; fewer = tt }
  keeps_at sound lightens (Ok None) h = record { kept = tt; lighter = tt; fewer = tt }
  keeps_at sound lightens (Ok (Some made)) h =
      let lighter : OnlyShipped t → IsLighter m 1 t (tree_in made) =
      λ shipped. rewritten_lighter m rule lightens path t (tree_in made) k typed shipped h in
      record {
        kept = rewritten_sound m rule sound path t (tree_in made) k typed h;
        lighter = lighter;
        fewer = λ shipped. fewer m 1 t (tree_in made) (lighter shipped);
      }
