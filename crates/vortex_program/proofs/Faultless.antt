-- A list of trees that are still to be read, and whether they fault; and which nodes join operands.
use Rattle.std.proofs.Common.{◌≡◌, List, [], ◌∷◌, ◌++◌, length, Some, None, refl, sym, ap}
use Rattle.std.proofs.Common.{subst, ◌∙◌, true, false, arith}
use Rattle.vortex_operators.specs.declared.operators.Operator.{Operator}
use Rattle.vortex_operators.specs.declared.operators.Operator.TheVariants.{And, Or}
use Rattle.vortex_operators.specs.Kleene.{decides}
use Rattle.vortex_operators.specs.Operators.{is_boolean}
use Rattle.vortex_interface.specs.Meaning.{Meaning}
use Rattle.vortex_interface.specs.Shipped.{Binary}
use Rattle.vortex_interface.specs.Functions.{Function, ours, function_infallible}
use Rattle.vortex_interface.specs.Trees.{Tree, leaf, constant, call, Trees, no_trees, tree}
use Rattle.vortex_interface.specs.Trees.{trees_of, children_of, called}
use Rattle.vortex_interface.proofs.StepPlaces.{same_trees}
use Rattle.vortex_functions.specs.FunctionOf.{function_of, operator_in}
use Rattle.vortex_functions.specs.declared.erased.ScalarFnRef.{ScalarFnRef}
use Rattle.vortex_functions.specs.declared.erased.ScalarFnRef.TheVariants as ref
use Rattle.vortex_program.specs.Deciding.{IsInfallible, AllInfallible, IsNodeInfallible, IsJoin}

module _ {V O : Type 0} where
  module _ (m : Meaning V O) where
    abbrev AllFree : List (Tree V O) → Type 0
    AllFree ts = AllInfallible m (trees_of ts)

    free_append : (xs ys : List (Tree V O)) → AllFree xs → AllFree ys → AllFree (xs ++ ys)
    free_append [] ys h k = k
    free_append (x ∷ xs) ys h k = (h.0, free_append xs ys h.1 k)

    free_split : (xs ys : List (Tree V O)) → AllFree (xs ++ ys) → AllFree xs × AllFree ys
    free_split [] ys h = (tt, h)
    free_split (x ∷ xs) ys h = let r = free_split xs ys h.1 in ((h.0, r.0), r.1)

    free_below : (t : Tree V O) → IsNodeInfallible m t → AllFree (children_of t)
        → IsInfallible m t
    free_below (leaf l) node h = tt
    free_below (constant s) node h = tt
    free_below (call f ts) node h =
        (node, subst (λ (us : Trees V O). AllInfallible m us) (same_trees ts) h)

    -- so it stays where the node gives its children to the list, which gives its last
    pub listed_free : (root t next : Tree V O) (list rest : List (Tree V O))
        → (IsInfallible m t → AllFree list → IsInfallible m root) → IsNodeInfallible m t
        → list ++ children_of t ≡ rest ++ next ∷ []
        → IsInfallible m next → AllFree rest → IsInfallible m root
    listed_free root t next list rest inv node e one others =
        let all = free_append rest (next ∷ []) others (one, tt) in
        let g = free_split list (children_of t)
        (subst (λ (xs : List (Tree V O)). AllFree xs) (sym e) all) in
        inv (free_below t node g.1) g.0

    pub last_free : (root t : Tree V O) (list : List (Tree V O))
        → (IsInfallible m t → AllFree list → IsInfallible m root) → IsNodeInfallible m t
        → list ++ children_of t ≡ [] → IsInfallible m root
    last_free root t list inv node e =
        let g = free_split list (children_of t)
        (subst (λ (xs : List (Tree V O)). AllFree xs) (sym e) tt) in
        inv (free_below t node g.1) g.0

    pub node_free : (t : Tree V O) (f : Function V O) → called t ≡ Some f
        → function_infallible m f ≡ true → IsNodeInfallible m t
    node_free (leaf l) f is h = tt
    node_free (constant s) f is h = tt
    node_free (call g ts) f is h =
        let same : f ≡ g = cc in
        subst (λ (x : Function V O). function_infallible m x ≡ true) same h

    pub leaf_free : (t : Tree V O) → called t ≡ None → IsNodeInfallible m t
    leaf_free (leaf l) is = tt
    leaf_free (constant s) is = tt
    leaf_free (call g ts) is = cc

  operator_is : (f : ScalarFnRef V O) (op : Operator) → operator_in f ≡ Some op
      → function_of f ≡ ours (Binary op)
  operator_is (ref.Binary o) op e =
      let same : o ≡ op = cc in
      ap (λ (x : Operator). ours (Binary x)) same
  operator_is f op e = cc

  two_operands : (op : Operator) (t : Tree V O) → length (children_of t) ≡ 2
      → called t ≡ Some (ours (Binary op)) → is_boolean op ≡ true → IsJoin op t
  two_operands op (leaf l) two is b = cc
  two_operands op (constant s) two is b = cc
  two_operands op (call g no_trees) two is b = absurd (omega (arith, two))
  two_operands op (call g (tree x no_trees)) two is b = absurd (omega (arith, two))
  two_operands op (call g (tree x (tree y no_trees))) two is b =
      let same : g ≡ ours (Binary op) = cc in (
        x,
        y,
        record {
          is = ap (λ (f : Function V O). call f (tree x (tree y no_trees))) same;
          boolean = b;
        },
      )
  two_operands op (call g (tree x (tree y (tree z ts)))) two is b = absurd (omega (arith, two))

  -- a call of And or Or of two operands
  pub joins : (op : Operator) (t : Tree V O) (f : ScalarFnRef V O) → length (children_of t) ≡ 2
      → called t ≡ Some (function_of f) → operator_in f ≡ Some op → is_boolean op ≡ true
      → IsJoin op t
  joins op t f two is e b = two_operands op t two (is ∙ ap Some (operator_is f op e)) b

pub and_decides : (op : Operator) → is_boolean op ≡ true → (op ≡ Or → ⊥) → decides op false ≡ true
and_decides And b other = refl
and_decides Or b other = absurd (other refl)
and_decides op b other = cc
