-- The leaves of array trees as trees: columns, each of that many rows.
use Rattle.std.specs.Prelude.{◌≡◌, ◌<◌, ◌∷◌, ℕ, List, [], Option, Some, None, All, IfSome, map}
use Rattle.std.specs.Prelude.{length, refl, zero, suc}
use Rattle.std.proofs.Common.{arith, subst, sym}
use Rattle.vortex_types.specs.ScalarView.{ScalarView}
use Rattle.vortex_columns.specs.ColumnView.{ColumnView, constant_column}
use Rattle.vortex_interface.specs.Functions.{Function}
use Rattle.vortex_interface.specs.Meaning.{Meaning}
use Rattle.vortex_interface.specs.Trees.{Tree, call, trees_of, called}
use Rattle.vortex_interface.specs.Rules.{Rules}
use Rattle.vortex_interface.specs.ReduceRules.{reduce}
use Rattle.vortex_interface.specs.Driver.{step}
use Rattle.vortex_interface.specs.Rewrites.{AllHaveRow}
use Rattle.vortex_functions.specs.Arrays.{Array, held_or_constant, column_tree, tree_in, rows_in}
use Rattle.vortex_functions.specs.Arrays.{IsTyped}
use Rattle.vortex_functions.specs.declared.array.ArrayLeaf.{ArrayLeaf}
use Rattle.vortex_functions.specs.declared.array.ArrayLeaf.TheVariants.{Column, Nulls}

-- the column of a leaf
abbrev pub leaf_column : ArrayLeaf → ColumnView
leaf_column (Column c) = c.value
leaf_column (Nulls c) = c

abbrev pub array_leaf : {V O : Type 0} → ArrayLeaf → Tree V O
array_leaf l = column_tree (leaf_column l)

-- a column whose view is constant has the scalar in each row
abbrev pub TellsConstant : ColumnView → Type 0
TellsConstant c = IfSome c.constant (λ s. c ≡ constant_column s (length c.rows))

-- a column of that many rows
abbrev pub StandsAmong : ℕ → ArrayLeaf → Type 0
StandsAmong n l = (length (leaf_column l).rows ≡ n) × TellsConstant (leaf_column l)

module _ {V O : Type 0} where
  rows_below : (n : ℕ) (xs : List (Array V O)) → All IsTyped xs → All (λ a. rows_in a ≡ n) xs
      → (i : ℕ) → i < n → AllHaveRow [] i (trees_of (map tree_in xs))
  rows_below n [] typed even i lt = tt
  rows_below n (a ∷ xs) typed even i lt =
      let within = subst (λ k. i < k) (sym (even zero a (omega arith))) lt in (
        typed zero a (omega arith) i within,
        rows_below n xs (λ j d p. typed (suc j) d (omega (arith, p)))
            (λ j d p. even (suc j) d (omega (arith, p))) i lt,
      )

  -- a call has rows of its types if everything below it has
  pub typed_call : (f : Function V O) (n : ℕ) (xs : List (Array V O)) → All IsTyped xs
      → All (λ a. rows_in a ≡ n) xs → IsTyped (call f (trees_of (map tree_in xs)), n)
  typed_call f n xs typed even i lt = rows_below n xs typed even i lt

module _ (V O : Type 0) where
  no_call : (c : ColumnView) (o : Option ScalarView)
      → called (held_or_constant {V = V} {O = O} c o) ≡ None
  no_call c None = refl
  no_call c (Some s) = refl

  pub not_called : (l : ArrayLeaf) → called (array_leaf {V = V} {O = O} l) ≡ None
  not_called l = no_call (leaf_column l) (leaf_column l).constant

module _ {V O : Type 0} (m : Meaning V O) (r : Rules V O) where
  none : (c : ColumnView) (o : Option ScalarView) → step (reduce m r) (held_or_constant c o) ≡ None
  none c None = refl
  none c (Some s) = refl

  pub settles : (l : ArrayLeaf) → step (reduce m r) (array_leaf l) ≡ None
  settles l = none (leaf_column l) (leaf_column l).constant
