-- The nodes of expressions, and those of array trees.
use Rattle.std.proofs.Common.{◌≡◌, ℕ, List, Bool, IsTrue, ◌↔◌, Some, get_or, sym, ap, subst, ◌∙◌}
use Rattle.std.specs.Prelude.{⊤, Ok, String}
use Rattle.std.specs.Borrow.{Bor}
use Rattle.std.specs.declared.alloc.Global.{Global}
use Rattle.std.specs.declared.borrow.Cow.TheVariants as cow
use Rattle.std.proofs.lemmas.Option.{get_or_from_slice_get}
use Rattle.vortex_types.specs.declared.dtype.DType.{DType}
use Rattle.vortex_columns.specs.ColumnView.{ColumnView}
use Rattle.vortex_interface.specs.Meaning.{Meaning}
use Rattle.vortex_interface.specs.Trees.{Tree}
use Rattle.vortex_interface.specs.Rules.{Rules}
use Rattle.vortex_interface.specs.ReduceRules.{reduce}
use Rattle.vortex_interface.specs.Driver.{simplify_or_reduce}
use Rattle.vortex_functions.specs.Arrays.{Array, tree_in, rows_in}
use Rattle.vortex_functions.specs.Nodes.{IsNode, call_of, node_tree}
use Rattle.vortex_interface.specs.Execution.{LeavesFit}
use Rattle.vortex_functions.specs.Executing.{NodeFits, LendsLeaf}
use Rattle.vortex_functions.specs.ExpressionLeaves.{expression_leaf, HasColumn}
use Rattle.vortex_functions.specs.ArrayLeaves.{StandsAmong}
use Rattle.vortex_functions.specs.declared.array.ArrayLeaf.{ArrayLeaf}
use Rattle.vortex_functions.specs.declared.expression.ExpressionLeaf.{ExpressionLeaf}
use Rattle.vortex_functions.specs.declared.expression.ExpressionLeaf.TheVariants.{Column, Literal}
use Rattle.vortex_functions.specs.declared.tree.Node.{Node}
use Rattle.vortex_functions.specs.declared.tree.Parts.{Parts}

module _ {V O : Type 0} where
  abbrev pub expression_node : Node V ExpressionLeaf O ⊤ (Tree V O) → Tree V O
  expression_node n = node_tree (λ t. t) expression_leaf n

  abbrev pub expression_call : Parts V ExpressionLeaf O ⊤ (Tree V O) → Tree V O
  expression_call parts = call_of (λ t. t) parts

  module _ (m : Meaning V O) (r : Rules V O) where
    abbrev pub IsExpressionNode : Node V ExpressionLeaf O ⊤ (Tree V O) → Type 0
    IsExpressionNode n = IsNode (λ t. t) (λ t. tt) m (simplify_or_reduce m r) (λ b l. ⊤) tt n

    abbrev pub IsArrayNode : ℕ → Node V ArrayLeaf O ℕ (Array V O) → Type 0
    IsArrayNode k n = IsNode tree_in rows_in m (reduce m r) StandsAmong k n

-- a leaf requires of the columns what its tree does
module _ (V O : Type 0) (cs : List ColumnView) where
  pub leaf_node_fits : (l : ExpressionLeaf) (b : Bool) → (IsTrue b ↔ HasColumn cs l)
      → IsTrue b ↔ NodeFits {V = V} {O = O} cs (expression_leaf l)
  leaf_node_fits (Column p name t) b h = h
  leaf_node_fits (Literal s alloc) b h = h

  pub leaf_tree_fits : (l : ExpressionLeaf) (b : Bool) → (IsTrue b ↔ HasColumn cs l)
      → IsTrue b ↔ LeavesFit {V = V} {O = O} cs (expression_leaf l)
  leaf_tree_fits (Column p name t) b h = h
  leaf_tree_fits (Literal s alloc) b h = h

  -- a column at the leaf's place is borrowed
  pub leaf_borrowed : (l : ExpressionLeaf) (p : ℕ) (name : String Global) (t : DType)
      (b : Bor ColumnView)
      → l ≡ Column p name t → LeavesFit {V = V} {O = O} cs (expression_leaf l)
      → b.now ≡ get_or cs p b.now
      → LendsLeaf {V = V} {O = O} cs (expression_leaf l) (Ok (cow.Borrowed b))
  leaf_borrowed l p name t b is fit e =
      let h : LeavesFit {V = V} {O = O} cs (expression_leaf (Column p name t)) =
      subst (λ (x : ExpressionLeaf). LeavesFit {V = V} {O = O} cs (expression_leaf x)) is fit in
      let q : h.0 ≡ b.now = sym (get_or_from_slice_get cs p h.0 b.now h.1) ∙ sym e in
      subst (λ (x : ExpressionLeaf). LendsLeaf {V = V} {O = O} cs (expression_leaf x)
      (Ok (cow.Borrowed b)))
      (sym is) (λ leaf. h.1 ∙ ap Some q)
