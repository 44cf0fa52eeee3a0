-- Which trees are executed over rows where they lie, by their calls.
use Rattle.std.proofs.Common.{◌≡◌, ◌∙◌, ℕ, zero, suc, ◌<◌, Bool, true, false, List, [], ◌∷◌, length}
use Rattle.std.proofs.Common.{take, get_or, Some, None, refl, sym, ap, arith}
use Rattle.std.specs.Prelude.{◌&&◌}
use Rattle.vortex_interface.specs.Functions.{Function}
use Rattle.vortex_interface.specs.Trees.{Tree, leaf, constant, call, called, children_of, trees_of}
use Rattle.vortex_standard.specs.declared.standard.Standard.{Standard}
use Rattle.yurkije_lent.specs.Calls.{is_direct_function, is_direct_tree, are_direct_trees}
use Rattle.yurkije_lent.proofs.CallRows.{listed_back}

module _ {O : Type 0} where
  pub no_call : (depth : ℕ) (t : Tree Standard O) → called t ≡ None → is_direct_tree depth t ≡ true
  no_call depth (leaf l) e = refl
  no_call depth (constant s) e = refl
  no_call depth (call f ts) e = let never : Some f ≡ None = e in cc

  -- a call where none may stand
  pub none_deep : (depth : ℕ) (t : Tree Standard O) (f : Function Standard O) → depth ≡ 0
      → called t ≡ Some f → is_direct_tree depth t ≡ false
  none_deep depth (leaf l) f z e = let never : None ≡ Some f = e in cc
  none_deep depth (constant s) f z e = let never : None ≡ Some f = e in cc
  none_deep zero (call g ts) f z e = refl
  none_deep (suc depth) (call g ts) f z e = absurd (omega (arith, z))

  -- the call of another function
  pub other_call : (depth : ℕ) (t : Tree Standard O) (f : Function Standard O) → called t ≡ Some f
      → is_direct_function f ≡ false → is_direct_tree depth t ≡ false
  other_call depth (leaf l) f e other = let never : None ≡ Some f = e in cc
  other_call depth (constant s) f e other = let never : None ≡ Some f = e in cc
  other_call zero (call g ts) f e other = refl
  other_call (suc depth) (call g ts) f e other =
      let same : g ≡ f = cc in
      ap (λ b. b && are_direct_trees depth ts) (ap is_direct_function same ∙ other)

  -- a call is as its children are
  pub by_children : (depth below : ℕ) (t : Tree Standard O) (f : Function Standard O)
      → depth ≡ suc below → called t ≡ Some f → is_direct_function f ≡ true
      → is_direct_tree depth t ≡ are_direct_trees below (trees_of (children_of t))
  by_children depth below (leaf l) f z e served = let never : None ≡ Some f = e in cc
  by_children depth below (constant s) f z e served = let never : None ≡ Some f = e in cc
  by_children depth below (call g ts) f z e served =
      let same : g ≡ f = cc in
      ap (λ d. is_direct_tree d (call g ts)) z
      ∙ ap (λ b. b && are_direct_trees below ts) (ap is_direct_function same ∙ served)
      ∙ ap (are_direct_trees below) (sym (listed_back ts))

  pub one_more : (depth : ℕ) (ts : List (Tree Standard O)) (k : ℕ) (t : Tree Standard O)
      → are_direct_trees depth (trees_of (take k ts)) ≡ true → k < length ts → t ≡ get_or ts k t
      → is_direct_tree depth t ≡ true → are_direct_trees depth (trees_of (take (suc k) ts)) ≡ true
  one_more depth [] k t h lt is one = absurd (omega (arith, lt))
  one_more depth (x ∷ xs) zero t h lt is one =
      ap (λ u. is_direct_tree depth u && true) (sym is) ∙ ap (λ b. b && true) one
  one_more depth (x ∷ xs) (suc k) t h lt is one =
      (λ i. first i && one_more depth xs k t rest (omega (arith, lt)) is one i)
    where
      both : (a b : Bool) → (a && b) ≡ true → (a ≡ true) × (b ≡ true)
      both true b e = (refl, e)
      both false b e = cc

      halves : (is_direct_tree depth x ≡ true) × (are_direct_trees depth (trees_of (take k xs)) ≡ true)
      halves = both (is_direct_tree depth x) (are_direct_trees depth (trees_of (take k xs))) h

      first : is_direct_tree depth x ≡ true
      first = halves.0

      rest : are_direct_trees depth (trees_of (take k xs)) ≡ true
      rest = halves.1

  pub one_other : (depth : ℕ) (ts : List (Tree Standard O)) (k : ℕ) (t : Tree Standard O)
      → k < length ts → t ≡ get_or ts k t → is_direct_tree depth t ≡ false
      → are_direct_trees depth (trees_of ts) ≡ false
  one_other depth [] k t lt is other = absurd (omega (arith, lt))
  one_other depth (x ∷ xs) zero t lt is other =
      ap (λ b. b && are_direct_trees depth (trees_of xs)) (ap (is_direct_tree depth) (sym is) ∙ other)
  one_other depth (x ∷ xs) (suc k) t lt is other =
      ap (λ b. is_direct_tree depth x && b) (one_other depth xs k t (omega (arith, lt)) is other)
      ∙ never (is_direct_tree depth x)
    where
      never : (b : Bool) → (b && false) ≡ false
      never true = refl
      never false = refl
