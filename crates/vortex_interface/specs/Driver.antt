-- A step rewrites a tree at the first place where the rule applies; a run is a sequence of steps.
use Rattle.std.specs.Prelude.{◌≡◌, ◌⊎◌, ◌≤◌, ℕ, zero, suc, Option, Some, None}
use Rattle.std.specs.Option.{option_map, option_or}
use Rattle.vortex_interface.specs.Meaning.{Meaning}
use Rattle.vortex_interface.specs.Trees.{Tree, leaf, constant, call, Trees, no_trees, tree}
use Rattle.vortex_interface.specs.Rules.{Rules}
use Rattle.vortex_interface.specs.ReduceRules.{reduce}
use Rattle.vortex_interface.specs.SimplifyRules.{simplify}

-- of two rules the first that applies
abbrev pub first_of : {V O : Type 0} (a b : Tree V O → Option (Tree V O)) → Tree V O
    → Option (Tree V O)
first_of a b t = option_or (a t) (b t)

-- the rule for expressions: the simplified node, or else the reduced one
abbrev pub simplify_or_reduce : {V O : Type 0} → Meaning V O → Rules V O → Tree V O
    → Option (Tree V O)
simplify_or_reduce m r = first_of (simplify m r) (reduce m r)

module _ {V O : Type 0} (rule : Tree V O → Option (Tree V O)) where
  -- the tree with the rule at the first place where it applies, children from left to right before
  -- their parent
  abbrev mutual
    pub step : Tree V O → Option (Tree V O)
    step (leaf l) = rule (leaf l)
    step (constant s) = rule (constant s)
    step (call f ts) = option_or (option_map (call f) (step_in ts)) (rule (call f ts))

    -- the trees with a step in the first that has one
    pub step_in : Trees V O → Option (Trees V O)
    step_in no_trees = None
    step_in (tree t ts) =
        option_or (option_map (λ u. tree u ts) (step t)) (option_map (tree t) (step_in ts))

  -- n steps lead from one tree to the other
  abbrev pub Runs : ℕ → Tree V O → Tree V O → Type 0
  Runs zero t u = t ≡ u
  Runs (suc n) t v = (u : Tree V O) × Runs n t u × (step u ≡ Some v)

  -- at most that many steps lead there: that many, or fewer to where none is left
  abbrev pub RunsTo : ℕ → Tree V O → Tree V O → Type 0
  RunsTo limit t u = (n : ℕ) × (n ≤ limit) × Runs n t u × ((step u ≡ None) ⊎ (n ≡ limit))
