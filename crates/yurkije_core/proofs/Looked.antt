-- Rows that were run, and of which nothing is kept.
use Rattle.std.proofs.Common.{◌≡◌, ℕ, ◌+◌, ◌-◌, ◌<◌, ◌≤◌, ◌⊎◌, inl, inr, List, [], ◌∷◌, subst, sym, arith}
use Rattle.vortex_columns.specs.ColumnView.{ColumnView}
use Rattle.vortex_interface.specs.Outcomes.{GivesValue}
use Rattle.vortex_functions.specs.Walks.{AllMean}
use Rattle.vortex_expressions.specs.Items.{Tree, meaning}
use Rattle.vortex_program.specs.Executing.{AllGive, AllGiveWithin}
use Rattle.yurkije_core.specs.Chunks.{RunsFrom}

module _ (cs : List ColumnView) (first count : ℕ) where
  pub run_gives : (ts : List Tree) (os : List ColumnView) → AllMean (RunsFrom cs first count) ts os
      → (j : ℕ) → j < count → AllGive meaning cs (first + j) ts
  run_gives [] [] h j lt = tt
  run_gives [] (o ∷ os) h j lt = absurd h
  run_gives (t ∷ ts) [] h j lt = absurd h
  run_gives (t ∷ ts) (o ∷ os) h j lt =
      (subst GivesValue (sym (h.0.each j lt)) tt, run_gives ts os h.1 j lt)

  either : (m n : ℕ) → (m < n) ⊎ (n ≤ m)
  either m n = grind arith

  given_by : (ts : List Tree) → AllGiveWithin meaning cs 0 first ts
      → ((j : ℕ) → j < count → AllGive meaning cs (first + j) ts) → (i : ℕ) → i < first + count
      → (i < first) ⊎ (first ≤ i) → AllGive meaning cs i ts
  given_by ts given more i lt (inl below) = given i (omega arith) below
  given_by ts given more i lt (inr high) =
      let back : first + (i - first) ≡ i = omega (arith, high) in
      subst (λ k. AllGive meaning cs k ts) back (more (i - first) (omega (arith, high, lt)))

  -- no tree faults in the rows so far, nor in those after them
  pub given_on : (ts : List Tree) → AllGiveWithin meaning cs 0 first ts
      → ((j : ℕ) → j < count → AllGive meaning cs (first + j) ts)
      → AllGiveWithin meaning cs 0 (first + count) ts
  given_on ts given more i low lt = given_by ts given more i lt (either i first)

  -- nor in those that were run after them
  pub given_more : (ts : List Tree) (os : List ColumnView) → AllGiveWithin meaning cs 0 first ts
      → AllMean (RunsFrom cs first count) ts os → AllGiveWithin meaning cs 0 (first + count) ts
  given_more ts os given run = given_on ts given (run_gives ts os run)
