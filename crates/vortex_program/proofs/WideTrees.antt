-- The most children of the nodes of a tree, while some of them are still to be read.
use Rattle.std.proofs.Common.{◌≡◌, ◌<◌, ◌≤◌, ℕ, zero, suc, List, [], ◌∷◌, ◌++◌, length, take, get_or}
use Rattle.std.proofs.Common.{take_all, max, sym, ap, subst, ◌∙◌, arith}
use Rattle.vortex_interface.specs.Trees as trees
use Rattle.vortex_interface.specs.Trees.{Tree, leaf, constant, call, children_of}
use Rattle.vortex_interface.proofs.StepPlaces.{same_trees}
use Rattle.vortex_program.specs.declared.answer.Answer as bound
use Rattle.vortex_program.specs.Programs.{trees_of}
use Rattle.vortex_program.specs.Widths.{most_children, most_children_in}

-- a node's own children and those of its children, each joined with what was seen before
regroup : (m k c l t r : ℕ) → t ≡ max k c → max m (max t l) ≡ r → max (max k m) (max l c) ≡ r
regroup m k c l t r is all = omega (arith, is, all)

module _ {V O : Type 0} where
  -- the most over a list of trees
  abbrev pub most_of : List (Tree V O) → ℕ
  most_of ts = most_children_in (trees.trees_of ts)

  most_append : (xs ys : List (Tree V O)) → most_of (xs ++ ys) ≡ max (most_of xs) (most_of ys)
  most_append [] ys = omega arith
  most_append (x ∷ xs) ys = omega (arith, most_append xs ys)

  most_below : (t : Tree V O)
      → most_children t ≡ max (length (children_of t)) (most_of (children_of t))
  most_below (leaf l) = omega arith
  most_below (constant s) = omega arith
  most_below (call f ts) = omega (arith, ap most_children_in (same_trees ts))

  -- the most so far, of the node and of the trees in the list is the most of the root
  abbrev pub IsMostWith : Tree V O → ℕ → Tree V O → List (Tree V O) → Type 0
  IsMostWith root most t list = max most (max (most_children t) (most_of list)) ≡ most_children root

  with_children : (root t : Tree V O) (list : List (Tree V O)) (most wider : ℕ)
      → IsMostWith root most t list → wider ≡ max (length (children_of t)) most
      → max wider (max (most_of list) (most_of (children_of t))) ≡ most_children root
  with_children root t list most wider inv is =
      ap (λ n. max n (max (most_of list) (most_of (children_of t)))) is
      ∙ regroup most (length (children_of t)) (most_of (children_of t)) (most_of list)
      (most_children t) (most_children root) (most_below t) inv

  -- the node was read, gave its children to the list, and the list its last
  pub wide_next : (root t next : Tree V O) (list rest : List (Tree V O)) (most wider : ℕ)
      → IsMostWith root most t list → wider ≡ max (length (children_of t)) most
      → list ++ children_of t ≡ rest ++ next ∷ [] → IsMostWith root wider next rest
  wide_next root t next list rest most wider inv is e =
      let both =
      sym (most_append list (children_of t)) ∙ ap most_of e ∙ most_append rest (next ∷ []) in
      omega (arith, both, with_children root t list most wider inv is)

  -- all were read
  pub wide_last : (root t : Tree V O) (list : List (Tree V O)) (most wider : ℕ)
      → IsMostWith root most t list → wider ≡ max (length (children_of t)) most
      → list ++ children_of t ≡ [] → wider ≡ most_children root
  wide_last root t list most wider inv is e =
      let both = sym (most_append list (children_of t)) ∙ ap most_of e in
      omega (arith, both, with_children root t list most wider inv is)

-- the most over the first answers
abbrev pub most_first : List bound.Answer → ℕ → ℕ
most_first xs i = most_of (trees_of (take i xs))

wide_more : (xs : List bound.Answer) (i : ℕ) (x : bound.Answer) → i < length xs
    → x ≡ get_or xs i x → most_first xs (suc i) ≡ max (most_first xs i) (most_children x.tree)
wide_more [] i x below at = absurd (omega (arith, below))
wide_more (y ∷ xs) zero x below at =
    omega (arith, ap (λ (a : bound.Answer). most_children a.tree) at)
wide_more (y ∷ xs) (suc i) x below at =
    omega (arith, wide_more xs i x (omega (arith, below)) at)

pub more_wide : (xs : List bound.Answer) (i j : ℕ) (x : bound.Answer) (most one now : ℕ)
    → j ≡ suc i → i < length xs → x ≡ get_or xs i x → most ≡ most_first xs i
    → one ≡ most_children x.tree → now ≡ max one most → now ≡ most_first xs j
more_wide xs i j x most one now next below at inv is joined =
    subst (λ (n : ℕ). now ≡ most_first xs n) (sym next)
    (omega (arith, wide_more xs i x below at, inv, is, joined))

pub all_wide : (xs : List bound.Answer) (i most : ℕ) → length xs ≤ i → most ≡ most_first xs i
    → most ≡ most_of (trees_of xs)
all_wide xs i most past inv =
    inv ∙ ap (λ (ys : List bound.Answer). most_of (trees_of ys)) (take_all i xs past)
