-- A well-typed node of And or Or: its two operands, and the result of Reduce.
use Rattle.std.proofs.Common.{◌≡◌, Bool, true, length, Option, Some, refl, sym, ap, ◌∙◌, arith}
use Rattle.std.specs.Prelude.{slice_get, Result}
use borrow.Author.Tests.{eqb-true}
use Rattle.vortex_errors.specs.declared.error.VortexError.{VortexError}
use Rattle.vortex_errors.specs.Answers.{AnswersUnlessMemory}
use Rattle.vortex_errors.proofs.Answering.{AnswersUnlessMemory-weaker}
use Rattle.vortex_types.specs.LogicalTypes.{LogicalType, bool_type, is_nullable}
use Rattle.vortex_operators.specs.declared.operators.Operator.{Operator}
use Rattle.vortex_operators.specs.declared.operators.Operator.TheVariants.{And, Or}
use Rattle.vortex_operators.specs.Operators.{is_boolean}
use Rattle.vortex_interface.specs.Meaning.{Meaning}
use Rattle.vortex_interface.specs.Shipped.{Binary, Cast}
use Rattle.vortex_interface.specs.Functions.{ours}
use Rattle.vortex_interface.specs.Trees.{Tree, leaf, constant, call, no_trees, tree, children_of}
use Rattle.vortex_interface.specs.Trees.{called}
use Rattle.vortex_interface.specs.Eval.{tree_type}
use Rattle.vortex_interface.specs.ComparisonTrees.{operated}
use Rattle.vortex_interface.specs.Rules.{Rules, cast_of, constant_truth, may_be_null}
use Rattle.vortex_interface.specs.Rules.{is_nullable_tree}
use Rattle.vortex_interface.specs.ReduceRules.{of_constants, reduce}
use Rattle.vortex_interface.proofs.TypedCalls.{type_of_one}
use Rattle.vortex_interface.proofs.BooleanCalls.{bool_call}
use Rattle.vortex_rewriting.specs.Contexts.{InContext, IsMade}
use Rattle.vortex_rewriting.specs.Reduced.{IsReduced}
use Rattle.vortex_rewriting.proofs.Calls.{children_fit}
use Rattle.vortex_rewriting.proofs.Made.{made_as}

module _ {V O : Type 0} (m : Meaning V O) where
  pub two_operands : (t : Tree V O) (op : Operator) (k : LogicalType)
      → called t ≡ Some (ours (Binary op)) → tree_type m t ≡ Some k → length (children_of t) ≡ 2
  two_operands t op k c h = eqb-true (length (children_of t)) 2
      (children_fit m t (ours (Binary op)) k c h)

  operated_by : (t : Tree V O) (op : Operator) (x y : Tree V O)
      → called t ≡ Some (ours (Binary op)) → length (children_of t) ≡ 2
      → slice_get (children_of t) 0 ≡ Some x → slice_get (children_of t) 1 ≡ Some y
      → t ≡ operated op x y
  operated_by (leaf l) op x y c n h k = cc
  operated_by (constant s) op x y c n h k = cc
  operated_by (call f no_trees) op x y c n h k = absurd (omega arith)
  operated_by (call f (tree a no_trees)) op x y c n h k = absurd (omega arith)
  operated_by (call f (tree a (tree b no_trees))) op x y c n h k =
      let function : f ≡ ours (Binary op) = cc in
      let left : a ≡ x = cc in
      let right : b ≡ y = cc in
      λ j. call (function j) (tree (left j) (tree (right j) no_trees))
  operated_by (call f (tree a (tree b (tree d ts)))) op x y c n h k = absurd (omega arith)

  -- the node, from its operands
  pub is_operated : (t : Tree V O) (op : Operator) (x y : Tree V O) (k : LogicalType)
      → called t ≡ Some (ours (Binary op)) → tree_type m t ≡ Some k
      → slice_get (children_of t) 0 ≡ Some x → slice_get (children_of t) 1 ≡ Some y
      → t ≡ operated op x y
  is_operated t op x y k c h l r = operated_by t op x y c (two_operands t op k c h) l r

  -- either operand can be cast
  pub casts_left : {t x y : Tree V O} {op : Operator} {k : LogicalType} → is_boolean op ≡ true
      → t ≡ operated op x y → tree_type m t ≡ Some k
      → tree_type m (cast_of x) ≡ Some (bool_type true)
  casts_left {x = x} {y = y} {op = op} {k = k} b is h =
      let c = bool_call m op x y k b (sym (ap (tree_type m) is) ∙ h) in
      type_of_one m (ours Cast) x (bool_type c.left_null) c.left

  pub casts_right : {t x y : Tree V O} {op : Operator} {k : LogicalType} → is_boolean op ≡ true
      → t ≡ operated op x y → tree_type m t ≡ Some k
      → tree_type m (cast_of y) ≡ Some (bool_type true)
  casts_right {x = x} {y = y} {op = op} {k = k} b is h =
      let c = bool_call m op x y k b (sym (ap (tree_type m) is) ∙ h) in
      type_of_one m (ours Cast) y (bool_type c.right_null) c.right

  table : (r : Rules V O) (op : Operator) (x y : Tree V O) → is_boolean op ≡ true
      → of_constants m op (is_nullable_tree m (operated op x y)) x y (constant_truth x)
      (constant_truth y) ≡ reduce m r (operated op x y)
  table r And x y b = refl
  table r Or x y b = refl
  table r op x y b = cc

  -- the result of Reduce for the node, from the constants among its operands
  pub reduced : {N B : Type 0} (seen : N → InContext V O B) (s l : InContext V O B) {x y : Tree V O}
      {op : Operator} {k : LogicalType} {n : Bool} (answer : Result (Option N) VortexError)
      → l.context ≡ s.context → is_boolean op ≡ true → s.tree ≡ operated op x y
      → tree_type m s.tree ≡ Some k → n ≡ is_nullable k
      → AnswersUnlessMemory answer
      (IsMade l seen (of_constants m op n x y (constant_truth x) (constant_truth y)))
      → AnswersUnlessMemory answer (IsReduced m seen s)
  reduced seen s l {x} {y} {op} {k} {n} answer here b is h null e =
      let same : n ≡ is_nullable_tree m (operated op x y) =
      null ∙ sym (ap may_be_null (sym (ap (tree_type m) is) ∙ h)) in
      let made = of_constants m op n x y (constant_truth x) (constant_truth y) in
      AnswersUnlessMemory-weaker answer (IsMade l seen made) (IsReduced m seen s)
      (λ a e r. made_as seen s l here made (reduce m r s.tree)
      (ap (λ q. of_constants m op q x y (constant_truth x) (constant_truth y)) same
      ∙ table r op x y b
      ∙ sym (ap (reduce m r) is)) a e)
      e
