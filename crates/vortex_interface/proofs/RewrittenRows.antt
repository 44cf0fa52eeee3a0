-- Executing a rewritten tree gives the old tree's column, if that has one.
use Rattle.std.proofs.Common.{◌≡◌, ℕ, zero, suc, ◌<◌, Bool, true, false, List, [], ◌∷◌, length}
use Rattle.std.proofs.Common.{Option, Some, None, refl, sym, ◌∙◌, subst, arith, nat_eq}
use Rattle.std.specs.Prelude.{All, slice_get, if◌then◌else◌}
use Rattle.std.proofs.lemmas.Option.{get_or_from_slice_get, slice_get_within}
use Rattle.vortex_types.specs.LogicalTypes.{LogicalType}
use Rattle.vortex_types.specs.Typing.{HasType}
use Rattle.vortex_columns.specs.ColumnView.{ColumnView, row, AreTyped}
use Rattle.vortex_interface.specs.Meaning.{Meaning}
use Rattle.vortex_interface.specs.Trees.{Leaf, place, held, Tree, leaf, constant, call, Trees}
use Rattle.vortex_interface.specs.Trees.{no_trees, tree}
use Rattle.vortex_interface.specs.Eval.{HasTreeRows, rows_or_none}
use Rattle.vortex_interface.specs.Execution.{LeafFits, LeavesFit, AllLeavesFit, other_length}
use Rattle.vortex_interface.specs.Execution.{Executes}
use Rattle.vortex_interface.specs.Rewrites.{LeafHasRow, HasRow, AllHaveRow, Rewrites, IsSound}
use Rattle.vortex_interface.specs.Made.{IsMadeLeaf, IsMade, AllMade}
use Rattle.vortex_interface.specs.Places.{rewritten_list}
use Rattle.vortex_interface.specs.Driver.{Runs}
use Rattle.vortex_interface.proofs.Leaves.{leaves_still_fit}
use Rattle.vortex_interface.proofs.Driving.{rewritten_list_sound, runs_sound}

-- columns of one length each have it
pub same_length : (n : ℕ) (cs : List ColumnView) (p : ℕ) (c : ColumnView) → other_length n cs ≡ None
    → slice_get cs p ≡ Some c → length c.rows ≡ n
same_length n [] p c h e = cc
same_length n (d ∷ ds) p c h e = by (nat_eq (length d.rows) n) refl h p e (same_length n ds)
  where
    by : (b : Bool) → nat_eq (length d.rows) n ≡ b
        → (if b then other_length n ds else Some (length d.rows)) ≡ None
        → (q : ℕ) → slice_get (d ∷ ds) q ≡ Some c
        → ((k : ℕ) (a : ColumnView) → other_length n ds ≡ None → slice_get ds k ≡ Some a
        → length a.rows ≡ n)
        → length c.rows ≡ n
    by false g k q f others = cc
    by true g k zero f others =
        let is : d ≡ c = cc in
        let count : length d.rows ≡ n = grind (arith, g) in
        subst (λ (a : ColumnView). length a.rows ≡ n) is count
    by true g k (suc q) f others = others q c k f

module _ (cs : List ColumnView) (n : ℕ) (lengths : other_length n cs ≡ None)
    (typed : All (λ c. AreTyped c.dtype c.rows) cs) where
  leaf_row : (l : Leaf) (i : ℕ) → i < n → LeafFits cs l → IsMadeLeaf n l → LeafHasRow cs i l
  leaf_row (held c) i lt fit made = made i lt
  leaf_row (place p name t) i lt (c, there, is) made =
      let within = slice_get_within cs p c there in
      let here = get_or_from_slice_get cs p c c there in
      let rows = subst (λ (d : ColumnView). AreTyped d.dtype d.rows) here (typed p c within) in
      let count = same_length n cs p c lengths there in
      let value = rows i _ (subst (λ k. i < k) (sym count) lt) in
      subst (λ (o : Option ColumnView). HasType t (row (rows_or_none o) i)) (sym there)
      (subst (λ (u : LogicalType). HasType u (row c.rows i)) is value)

  -- columns that match a tree have its rows
  module _ {V O : Type 0} where
    mutual
      pub fitting_row : (t : Tree V O) (i : ℕ) → i < n → LeavesFit cs t → IsMade n t → HasRow cs i t
      fitting_row (leaf l) i lt fit made = leaf_row l i lt fit made
      fitting_row (constant s) i lt fit made = made
      fitting_row (call f ts) i lt fit made = fitting_rows ts i lt fit made

      fitting_rows : (ts : Trees V O) (i : ℕ) → i < n → AllLeavesFit cs ts → AllMade n ts
          → AllHaveRow cs i ts
      fitting_rows no_trees i lt fit made = tt
      fitting_rows (tree t ts) i lt fit made =
          (fitting_row t i lt fit.0 made.0, fitting_rows ts i lt fit.1 made.1)

module _ {V O : Type 0} (m : Meaning V O) (cs : List ColumnView) (n : ℕ) where
  -- each row has values of the leaves' types
  abbrev pub HasRows : Tree V O → Type 0
  HasRows t = (i : ℕ) → i < n → HasRow cs i t

  pub rewritten_rows : (t u : Tree V O) (c : ColumnView) → Rewrites m t u → HasRows t
      → HasTreeRows m cs n t c → HasTreeRows m cs n u c
  rewritten_rows t u c a h k = record {
    dtype = a.dtype ∙ k.dtype;
    count = k.count;
    each = λ i lt. a.value cs i (row c.rows i) (h i lt) (k.each i lt);
  }

  -- over typed columns the new tree executes to the column that the old one does
  pub rewritten_executes : (t u : Tree V O) (c : ColumnView) → Rewrites m t u
      → All (λ c. AreTyped c.dtype c.rows) cs → IsMade n t
      → Executes m cs n t c → Executes m cs n u c
  rewritten_executes t u c a typed made k =
      let rows = λ (i : ℕ) (lt : i < n). fitting_row cs n k.lengths typed t i lt k.fit made in
      record {
        fit = leaves_still_fit cs t u a.asks k.fit;
        lengths = k.lengths;
        rows = rewritten_rows t u c a rows k.rows;
      }

  -- so does the result of a list of sound rules, and of a run of a sound rule
  pub rewritten_list_executes : {A : Type 0} (apply : A → Tree V O → Option (Tree V O))
      → ((a : A) → IsSound m (apply a)) → (steps : List (A × List ℕ)) (t u : Tree V O) (k : ℕ)
      (c : ColumnView) → All (λ c. AreTyped c.dtype c.rows) cs → IsMade n t
      → rewritten_list apply steps t ≡ Some (u, k) → Executes m cs n t c → Executes m cs n u c
  rewritten_list_executes apply sound steps t u k c typed made e x =
      rewritten_executes t u c
      (rewritten_list_sound m apply sound steps t u k c.dtype x.rows.dtype e) typed made x

  pub run_executes : (rule : Tree V O → Option (Tree V O)) → IsSound m rule → (k : ℕ)
      (t u : Tree V O) (c : ColumnView) → All (λ c. AreTyped c.dtype c.rows) cs → IsMade n t
      → Runs rule k t u → Executes m cs n t c → Executes m cs n u c
  run_executes rule sound k t u c typed made e x =
      rewritten_executes t u c (runs_sound m rule sound k t u c.dtype x.rows.dtype e) typed made x
