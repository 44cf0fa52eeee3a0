-- How code walks its steps, paths with rules.
use Rattle.std.proofs.Common.{◌≡◌, ◌<◌, ◌≤◌, ℕ, ◌+◌, List, length, get_or, take, Option, Some, None}
use Rattle.std.proofs.Common.{ap, ◌∙◌, arith, Bor}
use Rattle.std.specs.Prelude.{slice_get}
use Rattle.std.specs.Option.{option_map}
use Rattle.std.proofs.lemmas.List.{length-map}
use Rattle.std.proofs.lemmas.Option.{slice_get-map, slice_get-get_or}
use Rattle.vortex_errors.specs.Answers.{UnlessMemory}
use Rattle.vortex_errors.specs.declared.error.VortexError.{VortexError}
use Rattle.vortex_errors.specs.declared.error.VortexError.TheVariants.{NoSuchPlace}
use Rattle.vortex_errors.proofs.Answering.{UnlessMemory-weaker}
use Rattle.vortex_interface.specs.Trees.{Tree}
use Rattle.vortex_interface.specs.Places.{rewritten, rewritten_list}
use Rattle.vortex_interface.proofs.DriverLists.{list_ends, list_leaves, list_passes, list_counts}
use Rattle.vortex_rewriting.specs.Rewriting.{rule_at, steps_of}

module _ {V O A : Type 0} (apply : A → Tree V O → Option (Tree V O))
    (steps : List (Bor (List ℕ) × A)) (k : ℕ) (t x : Tree V O) (n : ℕ)
    (before : rewritten_list apply (take k (steps_of steps)) t ≡ Some (x, n)) where
  pub all_taken : length steps ≤ k → rewritten_list apply (steps_of steps) t ≡ Some (x, n)
  all_taken h =
      list_ends apply (steps_of steps) k t x n before
      (omega (arith, h, length-map steps rule_at))

  module _ (d : Bor (List ℕ) × A) (within : k < length steps) where
    abbrev next : Bor (List ℕ) × A
    next = get_or steps k d

    there : slice_get (steps_of steps) k ≡ Some (rule_at next)
    there = slice_get-map rule_at steps k ∙ ap (option_map rule_at)
        (slice_get-get_or steps k d within)

    -- an error of the next one is an error of all
    pub next_refused : (e : VortexError)
        → UnlessMemory
        (λ e. (e ≡ NoSuchPlace) × (rewritten (apply next.1) next.0.now x ≡ None)) e
        → UnlessMemory
        (λ e. (e ≡ NoSuchPlace) × (rewritten_list apply (steps_of steps) t ≡ None)) e
    next_refused =
        UnlessMemory-weaker
        (λ e. (e ≡ NoSuchPlace) × (rewritten (apply next.1) next.0.now x ≡ None))
        (λ e. (e ≡ NoSuchPlace) × (rewritten_list apply (steps_of steps) t ≡ None))
        (λ e h.
        (h.0, list_leaves apply (steps_of steps) k t x n before (rule_at next) there h.1))

    pub next_passes : rewritten (apply next.1) next.0.now x ≡ Some None
        → rewritten_list apply (take (k + 1) (steps_of steps)) t ≡ Some (x, n)
    next_passes = list_passes apply (steps_of steps) k t x n before (rule_at next) there

    pub next_counts : (u : Tree V O) → rewritten (apply next.1) next.0.now x ≡ Some (Some u)
        → rewritten_list apply (take (k + 1) (steps_of steps)) t ≡ Some (u, n + 1)
    next_counts = list_counts apply (steps_of steps) k t x n before (rule_at next) there
