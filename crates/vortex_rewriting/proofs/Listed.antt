-- The table of rules for the call of a function, by the list of functions.
use Rattle.std.proofs.Common.{◌≡◌, Option, Some, None, refl, sym, ap, ◌∙◌}
use Rattle.std.specs.Prelude.{ℕ, MatchOption, Result}
use Rattle.std.specs.Option.{option_map}
use Rattle.vortex_errors.specs.declared.error.VortexError.{VortexError}
use Rattle.vortex_errors.specs.Answers.{AnswersUnlessMemory}
use Rattle.vortex_errors.proofs.Answering.{AnswersUnlessMemory-weaker}
use Rattle.vortex_interface.specs.Meaning.{Meaning}
use Rattle.vortex_interface.specs.Shipped.{Shipped}
use Rattle.vortex_interface.specs.Functions.{Function, ours, custom}
use Rattle.vortex_interface.specs.Trees.{place, held, Tree, leaf, constant, call}
use Rattle.vortex_interface.specs.Trees.{trees_of, children_of, called, literal}
use Rattle.vortex_interface.specs.Rules.{Rules}
use Rattle.vortex_interface.specs.ValidityRules.{default_validity, default_rules, validity}
use Rattle.vortex_interface.proofs.StepPlaces.{same_trees}
use Rattle.vortex_functions.specs.declared.erased.ScalarFnRef.{ScalarFnRef}
use Rattle.vortex_functions.specs.declared.erased.ScalarFnRef.TheVariants as ref
use Rattle.vortex_functions.specs.declared.typed.TypedScalarFnInstance.{TypedScalarFnInstance}
use Rattle.vortex_functions.specs.Binding.{IsLeaf, IsLeafAt}
use Rattle.vortex_functions.specs.FunctionOf.{function_of, instance_in}
use Rattle.vortex_rewriting.specs.declared.node.ReduceNodeValidity.{ReduceNodeValidity}
use Rattle.vortex_rewriting.specs.Contexts.{InContext, with_tree}
use Rattle.vortex_rewriting.specs.Told.{IsTold}
use Rattle.vortex_rewriting.specs.Reduced.{IsValidityBy}

module _ {V O : Type 0} (m : Meaning V O) (r : Rules V O) where
  -- the validity of a call of a shipped function is the default one
  pub shipped_validity : (t : Tree V O) (s : Shipped) → called t ≡ Some (ours s)
      → default_validity m (ours s) (trees_of (children_of t)) ≡ validity m r t
  shipped_validity (leaf l) s c = cc
  shipped_validity (constant k) s c = cc
  shipped_validity (call f ts) s c =
      let is : f ≡ ours s = cc in
      ap (default_validity m (ours s)) (same_trees ts)
      ∙ ap (λ g. validity m r (call g ts)) (sym is)

  function_validity : (g : Function V O) (t : Tree V O)
      → ((f : V) (o : O) → g ≡ custom f o → ⊥) → called t ≡ Some g
      → default_validity m g (trees_of (children_of t)) ≡ validity m r t
  function_validity (ours s) t n c = shipped_validity t s c
  function_validity (custom f o) t n c = absurd (n f o refl)

  not_callers : (f : ScalarFnRef V O) → instance_in f ≡ None → (g : V) (o : O)
      → function_of f ≡ custom g o → ⊥
  not_callers (ref.Custom f) n g o e = cc
  not_callers f n g o e = cc

  -- and so for a reference to any function but a caller's
  pub listed_validity : (f : ScalarFnRef V O) (t : Tree V O) → instance_in f ≡ None
      → called t ≡ Some (function_of f)
      → default_validity m (function_of f) (trees_of (children_of t)) ≡ validity m r t
  listed_validity f t n c = function_validity (function_of f) t (not_callers f n) c

  -- an expression that is neither a literal nor a call has no validity
  pub no_validity : (t : Tree V O) (at : Option ℕ) → literal t ≡ None → called t ≡ None
      → MatchOption at (¬ IsLeaf t) (λ p. IsLeafAt p t) → None ≡ validity m r t
  no_validity (leaf (place p name k)) at l c h = refl
  no_validity (leaf (held column)) None l c h = absurd (h tt)
  no_validity (leaf (held column)) (Some p) l c h = absurd h
  no_validity (constant k) at l c h = cc
  no_validity (call f ts) at l c h = cc

module _ {V O : Type 0} (m : Meaning V O) where
  -- the default validity of a caller's function is its validity, if it has no rule
  own_validity : (t : Tree V O) (f : V) (o : O) → called t ≡ Some (custom f o)
      → default_validity m (custom f o) (trees_of (children_of t)) ≡ validity m (default_rules m) t
  own_validity (leaf l) f o c = cc
  own_validity (constant k) f o c = cc
  own_validity (call g ts) f o c =
      let is : g ≡ custom f o = cc in
      ap (default_validity m (custom f o)) (same_trees ts)
      ∙ ap (λ h. validity m (default_rules m) (call h ts)) (sym is)

  -- so the default validity of a reference to a copy of it is its validity
  pub own_answer : {N B : Type 0} (seen : N → InContext V O B) (s : InContext V O B)
      (f : ScalarFnRef V O) (v w : V) (o p : O) (answer : Result (ReduceNodeValidity N) VortexError)
      → f ≡ ref.Custom (record { vtable = v; options = o }) → v ≡ w → o ≡ p
      → called s.tree ≡ Some (custom w p)
      → AnswersUnlessMemory answer
      (IsTold s seen (default_validity m (function_of f) (trees_of (children_of s.tree))))
      → AnswersUnlessMemory answer (IsValidityBy m (default_rules m) seen s)
  own_answer seen s f v w o p answer is a b c h =
      let same : function_of f ≡ custom w p = ap function_of is ∙ (λ j. custom (a j) (b j)) in
      AnswersUnlessMemory-weaker answer
      (IsTold s seen (default_validity m (function_of f) (trees_of (children_of s.tree))))
      (IsValidityBy m (default_rules m) seen s)
      (λ told e. e
      ∙ ap (λ g. option_map (with_tree s) (default_validity m g (trees_of (children_of s.tree)))) same
      ∙ ap (option_map (with_tree s)) (own_validity s.tree w p c)) h

  pub no_instance : (f : ScalarFnRef V O)
      → ((i : TypedScalarFnInstance V O) → f ≡ ref.Custom i → ⊥) → instance_in f ≡ None
  no_instance (ref.Custom i) n = absurd (n i refl)
  no_instance f n = refl
