-- The results of a walk for a call's children.
use Rattle.std.proofs.Common.{◌≡◌, ℕ, ap, subst, ◌∙◌, List, [], ◌∷◌, map}
use Rattle.std.specs.declared.borrow.Cow.{Cow}
use Rattle.std.specs.Cow.{cow_value}
use Rattle.vortex_columns.specs.ColumnView.{ColumnView}
use Rattle.vortex_interface.specs.Meaning.{Meaning}
use Rattle.vortex_interface.specs.Functions.{Function}
use Rattle.vortex_interface.specs.Trees.{Tree, call, trees_of, children_of}
use Rattle.vortex_functions.specs.Walks.{AllMean}
use Rattle.vortex_functions.proofs.Execution.{AllHaveRows}
use Rattle.vortex_functions.proofs.TreeLists.{list_of-trees_of}
use Rattle.vortex_functions.specs.Executing.{HasRows}

module _ {V O : Type 0} where
  -- the results for the children of a tree that is known to be a call
  pub made_of_items : {P : Type 0} (means : Tree V O → P → Type 0) (self : Tree V O)
      (f : Function V O) (ts : List (Tree V O)) (os : List P)
      → self ≡ call f (trees_of ts) → AllMean means (children_of self) os → AllMean means ts os
  made_of_items means self f ts os is h =
      subst (λ (xs : List (Tree V O)). AllMean means xs os)
      (ap children_of is ∙ list_of-trees_of ts) h

  module _ (m : Meaning V O) (cs : List ColumnView) (n : ℕ) where
    pub beside : (ts : List (Tree V O)) (os : List (Cow ColumnView))
        → AllMean (HasRows m cs n) ts os → AllHaveRows m cs n ts (map cow_value os)
    beside [] [] h = tt
    beside [] (o ∷ os) h = absurd h
    beside (t ∷ ts) [] h = absurd h
    beside (t ∷ ts) (o ∷ os) h = (h.0, beside ts os h.1)
