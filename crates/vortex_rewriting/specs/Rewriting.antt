-- Results of rewriting at places.
use Rattle.std.specs.Prelude.{◌≡◌, ℕ, List, Option, Some, None, Result, map}
use Rattle.std.specs.Borrow.{Bor}
use Rattle.std.specs.Option.{option_map}
use Rattle.vortex_errors.specs.Answers.{Answers}
use Rattle.vortex_errors.specs.declared.error.VortexError.{VortexError}
use Rattle.vortex_errors.specs.declared.error.VortexError.TheVariants.{NoSuchPlace}
use Rattle.vortex_interface.specs.Trees.{Tree}
use Rattle.vortex_interface.specs.Places.{rewritten}

-- the rule's result for the tree at the place of the path, or an error if the path leaves the tree;
-- or memory ran out
abbrev pub AnswersRewritten : {V O T : Type 0} → (T → Tree V O) → (Tree V O → Option (Tree V O))
    → List ℕ → Tree V O → Result (Option T) VortexError → Type 0
AnswersRewritten tree_in rule path t result =
    Answers result (λ answer. rewritten rule path t ≡ Some (option_map tree_in answer))
    (λ e. (e ≡ NoSuchPlace) × (rewritten rule path t ≡ None))

-- steps as code has them, a path and a rule, as rules at paths
abbrev pub rule_at : {A : Type 0} → Bor (List ℕ) × A → A × List ℕ
rule_at s = (s.1, s.0.now)

abbrev pub steps_of : {A : Type 0} → List (Bor (List ℕ) × A) → List (A × List ℕ)
steps_of steps = map rule_at steps
