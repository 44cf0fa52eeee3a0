-- Comparisons of trees with the digits that they lack mean what they should, row by row.
use Rattle.std.proofs.Common.{◌≡◌, ◌∙◌, ◌<◌, ◌≤◌, ℕ, Bool, true, false, refl, ap, sym, subst, arith}
use Rattle.std.specs.Prelude.{List, [], ◌∷◌, Some, None, ◌&&◌, ◌||◌, max, is_some, option_and_then, if◌then◌else◌}
use Rattle.vortex_types.specs.declared.dtype.PType.{PType}
use Rattle.vortex_types.specs.declared.dtype.PType.TheVariants.{I64}
use Rattle.vortex_types.specs.LogicalTypes.{LogicalType, integer_type, bool_type}
use Rattle.vortex_types.specs.TypeEquality.{ptype_yes, ptype_refl}
use Rattle.vortex_types.specs.Values.{Value}
use Rattle.vortex_operators.specs.declared.operators.CompareOperator.{CompareOperator}
use Rattle.vortex_operators.specs.declared.operators.CompareOperator.TheVariants as compare
use Rattle.vortex_operators.specs.declared.operators.Operator.{Operator}
use Rattle.vortex_operators.specs.Operators.{operator_of}
use Rattle.vortex_operators.specs.OperatorValues.{comparison_value}
use Rattle.vortex_interface.specs.Meaning.{Meaning}
use Rattle.vortex_interface.specs.Outcomes.{Outcome, gives}
use Rattle.vortex_interface.specs.ComparisonTrees.{compared_means, operated}
use Rattle.vortex_interface.specs.Shipped.{Binary}
use Rattle.vortex_interface.specs.Shipped.BinaryFunction.{operator_means, operator_type, compared_type}
use Rattle.vortex_interface.specs.Functions.{Function, ours, call_type}
use Rattle.vortex_interface.specs.Trees.{Tree, trees_of}
use Rattle.vortex_interface.specs.Eval.{eval, tree_type, tree_types, all_give, with_first, then_means, with_type, types_or_none}
use Rattle.vortex_logical.specs.declared.kind.Kind.TheVariants.{Plain, Date, Timestamp, Decimal, F64, F32}
use Rattle.vortex_logical.specs.declared.operand.Operand.{Operand}
use Rattle.vortex_logical.specs.declared.operand.Operand.TheVariants.{Whole, Of}
use Rattle.vortex_logical.specs.Decimals.{RescalingOrders}
use Rattle.vortex_logical.specs.StandsFor.{StoredValuesAreOrdered}
use Rattle.vortex_lowering.specs.Operands.{are_shipped, operand_ptype, common_scale, scale_of, lacking, held_at}
use Rattle.vortex_lowering.specs.Rows.{Lowered, IsOfType, IsTyped}
use Rattle.vortex_lowering.specs.LoweredTrees.{tree_at_scale, compared_tree}
use Rattle.vortex_lowering.specs.Comparing.{Compares}
use Rattle.vortex_lowering.proofs.TreeTypes.{each_some, arguments_some}
use Rattle.vortex_lowering.proofs.LengthenedTrees.{some_same, scaled, scaled_typed}
use Rattle.vortex_lowering.proofs.LengthenedRows.{or_fault, row_outcome, truth_value}

-- the outcome of a comparison for those of its operands
abbrev of_compared : CompareOperator → List LogicalType → Outcome → Outcome → Outcome
of_compared op ts o q = then_means (operator_means (operator_of op) ts) (with_first o (with_first q (all_give [])))

compared_rows : (op : CompareOperator) (ts : List LogicalType) (b c : Bool) (v w : Value)
    → of_compared op ts (or_fault b (gives v)) (or_fault c (gives w)) ≡ or_fault (b && c) (gives (comparison_value op v w))
compared_rows op ts true true v w = compared_means op ts v w
compared_rows op ts true false v w = refl
compared_rows op ts false c v w = refl

left_most : (m n : ℕ) → m ≤ max m n
left_most m n = omega arith

right_most : (m n : ℕ) → n ≤ max m n
right_most m n = omega arith

-- two that shipped functions compare are stored in one integer type
pub same_ptype : (a b : Operand) → are_shipped a b ≡ true → operand_ptype a ≡ operand_ptype b
same_ptype (Whole p) (Whole q) r = ap (λ k. Some k) (ptype_yes p q r)
same_ptype (Of (Decimal d)) (Of (Decimal e)) r = refl
same_ptype (Of (Decimal d)) (Whole p) r = sym (ap (λ k. Some k) (ptype_yes p I64 r))
same_ptype (Whole p) (Of (Decimal e)) r = ap (λ k. Some k) (ptype_yes p I64 r)
same_ptype (Of Plain) (Of Plain) r = refl
same_ptype (Of Date) (Of Date) r = refl
same_ptype (Of Timestamp) (Of Timestamp) r = refl
same_ptype (Of F64) (Of F64) r = refl
same_ptype (Of F32) (Of F32) r = refl
same_ptype a b r = cc

-- and one that lacks digits is stored in 64 bits
wide_left : (a b : Operand) → are_shipped a b ≡ true → 0 < lacking (common_scale a b) a → operand_ptype a ≡ Some I64
wide_left (Of (Decimal d)) b r h = refl
wide_left (Whole p) (Of (Decimal e)) r h = ap (λ k. Some k) (ptype_yes p I64 r)
wide_left (Whole p) (Whole q) r h = absurd (omega (arith, h))
wide_left (Of Plain) b r h = absurd (omega (arith, h))
wide_left (Of Date) b r h = absurd (omega (arith, h))
wide_left (Of Timestamp) b r h = absurd (omega (arith, h))
wide_left (Of F64) b r h = absurd (omega (arith, h))
wide_left (Of F32) b r h = absurd (omega (arith, h))
wide_left a b r h = cc

wide_right : (a b : Operand) → are_shipped a b ≡ true → 0 < lacking (common_scale a b) b → operand_ptype b ≡ Some I64
wide_right a (Of (Decimal d)) r h = refl
wide_right (Of (Decimal e)) (Whole p) r h = ap (λ k. Some k) (ptype_yes p I64 r)
wide_right (Whole p) (Whole q) r h = absurd (omega (arith, h))
wide_right a (Of Plain) r h = absurd (omega (arith, h))
wide_right a (Of Date) r h = absurd (omega (arith, h))
wide_right a (Of Timestamp) r h = absurd (omega (arith, h))
wide_right a (Of F64) r h = absurd (omega (arith, h))
wide_right a (Of F32) r h = absurd (omega (arith, h))
wide_right a b r h = cc

-- a comparison takes two of one integer type
compared_integers : (op : CompareOperator) (p : PType) (n k : Bool)
    → operator_type (operator_of op) (integer_type p n ∷ integer_type p k ∷ []) ≡ Some (bool_type (n || k))
compared_integers op p n k = by op
  where
    same : compared_type (integer_type p n ∷ integer_type p k ∷ []) ≡ Some (bool_type (n || k))
    same = ap (λ b. if b && true then Some (bool_type (n || k)) else None) (ptype_refl p)

    by : (op : CompareOperator) → operator_type (operator_of op) (integer_type p n ∷ integer_type p k ∷ []) ≡ Some (bool_type (n || k))
    by compare.Eq = same
    by compare.NotEq = same
    by compare.Gt = same
    by compare.Gte = same
    by compare.Lt = same
    by compare.Lte = same

-- the tree of the definition, from its parts
pub compared_made : {V O : Type 0} (op : CompareOperator) (x y : Lowered V O) (u : ℕ) (p : Operator) (l r : Tree V O)
    → u ≡ common_scale x.operand y.operand → p ≡ operator_of op → l ≡ tree_at_scale u x → r ≡ tree_at_scale u y
    → operated p l r ≡ compared_tree op x y
compared_made op x y u p l r e f g h =
    (λ i. operated (f i) (g i) (h i)) ∙ (λ i. operated (operator_of op) (tree_at_scale (e i) x) (tree_at_scale (e i) y))

module _ {V O : Type 0} (m : Meaning V O) (op : CompareOperator) (x y : Lowered V O)
    (shipped : are_shipped x.operand y.operand ≡ true) where
  abbrev compared_function : Function V O
  compared_function = ours (Binary (operator_of op))

  pub compares : StoredValuesAreOrdered → RescalingOrders → (t : Tree V O) → t ≡ compared_tree op x y
      → is_some (tree_type m t) ≡ true → Compares m op x y t
  compares ordered orders t is takes cs i v w p h g e =
      let u = common_scale x.operand y.operand in
      let l = tree_at_scale u x in
      let r = tree_at_scale u y in
      let ts = types_or_none (tree_types m (trees_of (l ∷ r ∷ []))) in
      let both = arguments_some m compared_function (trees_of (l ∷ r ∷ [])) (ap (λ s. is_some (tree_type m s)) (sym is) ∙ takes) in
      let left = each_some (tree_type m l) (tree_types m (trees_of (r ∷ []))) both in
      let right = each_some (tree_type m r) (Some []) left.1 in
      let one = row_outcome m u x l (scaled m u x left.0) cs i v h in
      let two = row_outcome m u y r (scaled m u y right.0) cs i w g in
      let truth = truth_value ordered orders op u x.operand y.operand shipped
      (left_most (scale_of x.operand) (scale_of y.operand)) (right_most (scale_of x.operand) (scale_of y.operand))
      v w p one.0 two.0 one.2 two.2 e in
      ap (λ s. eval m cs s i) is
      ∙ (λ j. of_compared op ts (one.1 j) (two.1 j))
      ∙ compared_rows op ts (held_at u x.operand v) (held_at u y.operand w) one.0 two.0
      ∙ ap (λ s. or_fault (held_at u x.operand v && held_at u y.operand w) (gives s)) truth

  -- operands of their stored types are compared
  compared_typed : IsTyped m x → IsTyped m y → is_some (tree_type m (compared_tree op x y)) ≡ true
  compared_typed h g =
      let u = common_scale x.operand y.operand in
      let same = some_same g.0 h.0 (sym g.1 ∙ sym (same_ptype x.operand y.operand shipped) ∙ h.1) in
      let left = (scaled_typed m u x (wide_left x.operand y.operand shipped) h).keeps h.0 h.2 in
      let right = (scaled_typed m u y (wide_right x.operand y.operand shipped) g).keeps h.0 (subst (λ p. IsOfType m p y.tree) same g.2) in
      (λ i. is_some (option_and_then (call_type m compared_function) (with_type (left.1 i) (with_type (right.1 i) (Some [])))))
      ∙ ap is_some (compared_integers op h.0 left.0 right.0)

  -- so no type means that one is not of its stored type
  pub comparison_none : (t : Tree V O) → t ≡ compared_tree op x y → tree_type m t ≡ None
      → (tree_type m (compared_tree op x y) ≡ None) × ¬ (IsTyped m x × IsTyped m y)
  comparison_none t is e =
      let none : tree_type m (compared_tree op x y) ≡ None = ap (tree_type m) (sym is) ∙ e in (
        none,
        λ h. let some = compared_typed h.0 h.1 in let no : is_some (tree_type m (compared_tree op x y)) ≡ false = ap is_some none in cc,
      )
