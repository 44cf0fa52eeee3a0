-- The same call on other children, on which it is well typed, does not fail.
use Rattle.std.proofs.Common.{◌≡◌, List, Some, refl, ap, ◌∙◌}
use Rattle.std.specs.Prelude.{Result, IsSome}
use Rattle.std.specs.Option.{option_and_then}
use Rattle.vortex_errors.specs.declared.error.VortexError.{VortexError}
use Rattle.vortex_errors.specs.Answers.{Answers, AnswersUnlessMemory}
use Rattle.vortex_errors.proofs.Answering.{Answers-weaker}
use Rattle.vortex_interface.specs.Meaning.{Meaning}
use Rattle.vortex_interface.specs.Functions.{Function, call_type}
use Rattle.vortex_interface.specs.Trees.{Tree, leaf, constant, call, trees_of, called, children_of}
use Rattle.vortex_interface.specs.Eval.{tree_type, tree_types}
use Rattle.vortex_interface.proofs.StepPlaces.{same_trees}
use Rattle.vortex_functions.specs.Binding.{IsCall, RefusesCall}
use Rattle.vortex_rewriting.proofs.NotRefused.{not_refused}
use Rattle.vortex_rewriting.specs.Places.{with_children}
use Rattle.vortex_rewriting.proofs.FrameWalks.{some_of}

module _ {V O : Type 0} where
  pub with_children_call : (t : Tree V O) (f : Function V O) (us : List (Tree V O))
      → called t ≡ Some f → call f (trees_of us) ≡ with_children t us
  with_children_call (leaf l) f us h = cc
  with_children_call (constant s) f us h = cc
  with_children_call (call g ts) f us h =
      let is : f ≡ g = cc in
      ap (λ x. call x (trees_of us)) is

  -- other children of the same types keep the type
  pub others_typed : (m : Meaning V O) (t : Tree V O) (us : List (Tree V O))
      → tree_types m (trees_of us) ≡ tree_types m (trees_of (children_of t))
      → tree_type m (with_children t us) ≡ tree_type m t
  others_typed m (leaf l) us same = refl
  others_typed m (constant s) us same = refl
  others_typed m (call f ts) us same =
      ap (option_and_then (call_type m f)) (same ∙ ap (tree_types m) (same_trees ts))

  module _ (m : Meaning V O) (t : Tree V O) (f : Function V O) (is : called t ≡ Some f)
      (us : List (Tree V O)) (typed : IsSome (tree_type m (with_children t us))) where
    pub others_refused : (e : VortexError) → RefusesCall m f us e → ⊥
    others_refused =
        let is_typed = some_of (tree_type m (with_children t us)) typed in
        not_refused m f us is_typed.0
        (ap (tree_type m) (with_children_call t f us is) ∙ is_typed.1)

    pub call_on_others : {S B : Type 0} (tree : S → Tree V O) (context : S → B) (b d : B)
        → b ≡ d → (r : Result S VortexError)
        → Answers r (λ made. IsCall m f us (tree made) × (context made ≡ b)) (RefusesCall m f us)
        → AnswersUnlessMemory r (λ made. (tree made ≡ with_children t us) × (context made ≡ d))
    call_on_others tree context b d same r h =
        Answers-weaker r (λ made. IsCall m f us (tree made) × (context made ≡ b))
        (λ made. (tree made ≡ with_children t us) × (context made ≡ d)) (RefusesCall m f us)
        (λ e. ⊥) (λ made p. (p.0.is ∙ with_children_call t f us is, p.1 ∙ same)) others_refused h
