-- The code of a tree, from those of a caller's functions and options: the tree is written as a list
-- of marks in post-order, which a stack machine turns back into it. No contract cites this module.
use Rattle.std.specs.Prelude.{◌≡◌, ◌⊎◌, refl, ℕ, zero, List, [], ◌∷◌}
use Rattle.std.proofs.Common.{◌∙◌, ap, inl, inr}
use Rattle.std.specs.Coded.{Coded, code_by, coded×, coded⊎, coded_ℕ, coded_list}
use Rattle.vortex_types.specs.LogicalTypes.{LogicalType}
use Rattle.vortex_types.specs.Codes.{coded_type}
use Rattle.vortex_columns.specs.ColumnView.{ColumnView, coded_column}
use Rattle.vortex_types.specs.ScalarView.{ScalarView, coded_scalar}
use Rattle.vortex_interface.specs.Shipped.{Shipped, Not, shipped_number, shipped_numbered}
use Rattle.vortex_interface.specs.Shipped.{shipped_back}
use Rattle.vortex_interface.specs.Functions.{Function, ours, custom}
use Rattle.vortex_interface.specs.Trees.{Leaf, place, held, Tree, leaf, constant, call, Trees}
use Rattle.vortex_interface.specs.Trees.{no_trees, tree}

abbrev pub coded_shipped : Coded Shipped
coded_shipped =
    code_by (ℕ × ℕ) (coded× coded_ℕ coded_ℕ) shipped_number (λ p. shipped_numbered p.0 p.1)
    shipped_back

abbrev pub leaf_to : Leaf → (ℕ × (List ℕ × LogicalType)) ⊎ ColumnView
leaf_to (place p name t) = inl (p, (name, t))
leaf_to (held c) = inr c

abbrev pub leaf_from : (ℕ × (List ℕ × LogicalType)) ⊎ ColumnView → Leaf
leaf_from (inl p) = place p.0 p.1.0 p.1.1
leaf_from (inr c) = held c

pub leaf_back : (l : Leaf) → leaf_from (leaf_to l) ≡ l
leaf_back (place p name t) = refl
leaf_back (held c) = refl

abbrev pub coded_leaf : Coded Leaf
coded_leaf =
    let coded_place = coded× coded_ℕ (coded× (coded_list coded_ℕ) coded_type) in
    let kinds = coded⊎ coded_place coded_column in
    code_by ((ℕ × (List ℕ × LogicalType)) ⊎ ColumnView) kinds leaf_to leaf_from leaf_back

module _ {V O : Type 0} where
  abbrev pub function_to : Function V O → Shipped ⊎ (V × O)
  function_to (ours s) = inl s
  function_to (custom f o) = inr (f, o)

  abbrev pub function_from : Shipped ⊎ (V × O) → Function V O
  function_from (inl s) = ours s
  function_from (inr p) = custom p.0 p.1

  pub function_back : (f : Function V O) → function_from (function_to f) ≡ f
  function_back (ours s) = refl
  function_back (custom f o) = refl

  abbrev pub coded_function : Coded V → Coded O → Coded (Function V O)
  coded_function v o =
      let kinds = coded⊎ coded_shipped (coded× v o) in
      code_by (Shipped ⊎ (V × O)) kinds function_to function_from function_back

pub data Mark (V O : Type 0) : Type 0 where
  leaf_mark : Leaf → Mark V O
  constant_mark : ScalarView → Mark V O
  call_mark : Function V O → Mark V O
  end_mark : Mark V O
  more_mark : Mark V O

module _ {V O : Type 0} where
  abbrev pub mark_to : Mark V O → Leaf ⊎ (ScalarView ⊎ (Function V O ⊎ ℕ))
  mark_to (leaf_mark l) = inl l
  mark_to (constant_mark s) = inr (inl s)
  mark_to (call_mark f) = inr (inr (inl f))
  mark_to end_mark = inr (inr (inr 0))
  mark_to more_mark = inr (inr (inr 1))

  abbrev pub end_or_more : ℕ → Mark V O
  end_or_more zero = end_mark
  end_or_more n = more_mark

  abbrev pub mark_from : Leaf ⊎ (ScalarView ⊎ (Function V O ⊎ ℕ)) → Mark V O
  mark_from (inl l) = leaf_mark l
  mark_from (inr (inl s)) = constant_mark s
  mark_from (inr (inr (inl f))) = call_mark f
  mark_from (inr (inr (inr n))) = end_or_more n

  pub mark_back : (k : Mark V O) → mark_from (mark_to k) ≡ k
  mark_back (leaf_mark l) = refl
  mark_back k = refl

  abbrev pub coded_mark : Coded V → Coded O → Coded (Mark V O)
  coded_mark v o =
      let inner = coded⊎ coded_scalar (coded⊎ (coded_function v o) coded_ℕ) in
      let kinds = coded⊎ coded_leaf inner in
      code_by (Leaf ⊎ (ScalarView ⊎ (Function V O ⊎ ℕ))) kinds mark_to mark_from mark_back

  -- the marks of a tree, followed by those of the rest
  abbrev mutual
    pub marks : Tree V O → List (Mark V O) → List (Mark V O)
    marks (leaf l) rest = leaf_mark l ∷ rest
    marks (constant s) rest = constant_mark s ∷ rest
    marks (call f ts) rest = all_marks ts (call_mark f ∷ rest)

    pub all_marks : Trees V O → List (Mark V O) → List (Mark V O)
    all_marks no_trees rest = end_mark ∷ rest
    all_marks (tree t ts) rest = marks t (all_marks ts (more_mark ∷ rest))

  -- a stack of trees after one mark; a row of trees is represented by a call of Not
  abbrev pub as_call : Function V O → List (Tree V O) → List (Tree V O)
  as_call f (call g ts ∷ stack) = call f ts ∷ stack
  as_call f stack = stack

  abbrev pub with_more : List (Tree V O) → List (Tree V O)
  with_more (call g ts ∷ t ∷ stack) = call g (tree t ts) ∷ stack
  with_more stack = stack

  abbrev pub after : Mark V O → List (Tree V O) → List (Tree V O)
  after (leaf_mark l) stack = leaf l ∷ stack
  after (constant_mark s) stack = constant s ∷ stack
  after (call_mark f) stack = as_call f stack
  after end_mark stack = call (ours Not) no_trees ∷ stack
  after more_mark stack = with_more stack

  abbrev pub run : List (Mark V O) → List (Tree V O) → List (Tree V O)
  run [] stack = stack
  run (k ∷ ks) stack = run ks (after k stack)

  mutual
    run-marks : (t : Tree V O) (rest : List (Mark V O)) (stack : List (Tree V O))
        → run (marks t rest) stack ≡ run rest (t ∷ stack)
    run-marks (leaf l) rest stack = refl
    run-marks (constant s) rest stack = refl
    run-marks (call f ts) rest stack = run-all_marks ts (call_mark f ∷ rest) stack

    run-all_marks : (ts : Trees V O) (rest : List (Mark V O)) (stack : List (Tree V O))
        → run (all_marks ts rest) stack ≡ run rest (call (ours Not) ts ∷ stack)
    run-all_marks no_trees rest stack = refl
    run-all_marks (tree t ts) rest stack =
        run-marks t (all_marks ts (more_mark ∷ rest)) stack
        ∙ run-all_marks ts (more_mark ∷ rest) (t ∷ stack)

  abbrev pub top : List (Tree V O) → Tree V O
  top [] = call (ours Not) no_trees
  top (t ∷ stack) = t

  pub tree_back : (t : Tree V O) → top (run (marks t []) []) ≡ t
  tree_back t = ap top (run-marks t [] [])

  abbrev pub coded_tree : Coded V → Coded O → Coded (Tree V O)
  coded_tree v o =
      let coded_marks = coded_list (coded_mark v o) in
      code_by (List (Mark V O)) coded_marks (λ t. marks t []) (λ ks. top (run ks [])) tree_back
