-- The leaves of expressions as trees: places in a scope, and literals.
use Rattle.std.specs.Prelude.{◌≡◌, ◌∷◌, List, [], None, All, ⊤, map, refl, string_bytes, zero, suc}
use Rattle.std.proofs.Common.{arith, sym}
use Rattle.std.proofs.lemmas.List.{map-id}
use Rattle.vortex_types.specs.TypeOf.{type_of}
use Rattle.vortex_columns.specs.ColumnView.{ColumnView}
use Rattle.vortex_interface.specs.Functions.{Function}
use Rattle.vortex_interface.specs.Meaning.{Meaning}
use Rattle.vortex_interface.specs.Trees.{place, Tree, leaf, constant, call, trees_of, children_of}
use Rattle.vortex_interface.specs.Trees.{called}
use Rattle.vortex_interface.specs.Rules.{Rules}
use Rattle.vortex_interface.specs.Driver.{simplify_or_reduce, step}
use Rattle.vortex_interface.specs.Made.{IsBound}
use Rattle.vortex_interface.specs.Execution.{LeafFits}
use Rattle.vortex_functions.specs.declared.expression.ExpressionLeaf.{ExpressionLeaf}
use Rattle.vortex_functions.specs.declared.expression.ExpressionLeaf.TheVariants.{Column, Literal}

abbrev pub expression_leaf : {V O : Type 0} → ExpressionLeaf → Tree V O
expression_leaf (Column p name t) = leaf (place p (string_bytes name) (type_of t))
expression_leaf (Literal s alloc) = constant s

-- the leaf's column exists, and has the leaf's type; a literal requires none
abbrev pub HasColumn : List ColumnView → ExpressionLeaf → Type 0
HasColumn cs (Column p name t) = LeafFits cs (place p (string_bytes name) (type_of t))
HasColumn cs (Literal s alloc) = ⊤

pub children_are : {V O : Type 0} (t : Tree V O) → children_of t ≡ map (λ x. x) (children_of t)
children_are t = sym (map-id (children_of t))

-- a call is bound if everything below it is
pub bound_call : {V O : Type 0} (f : Function V O) (ts : List (Tree V O)) → All IsBound ts
    → IsBound (call f (trees_of (map (λ t. t) ts)))
bound_call f [] h = tt
bound_call f (t ∷ ts) h =
    (h zero t (omega arith), bound_call f ts (λ i d lt. h (suc i) d (omega (arith, lt))))

pub not_called : (V O : Type 0) (l : ExpressionLeaf)
    → called (expression_leaf {V = V} {O = O} l) ≡ None
not_called V O (Column p name t) = refl
not_called V O (Literal s alloc) = refl

pub settles : {V O : Type 0} (m : Meaning V O) (r : Rules V O) (l : ExpressionLeaf)
    → step (simplify_or_reduce m r) (expression_leaf l) ≡ None
settles m r (Column p name t) = refl
settles m r (Literal s alloc) = refl
