-- Sums, differences and products of trees with the digits that they lack mean what they should, row by row.
use Rattle.std.proofs.Common.{◌≡◌, ◌∙◌, ◌<◌, ℕ, ℤ, Bool, true, false, refl, ap, sym, subst, arith}
use Rattle.std.specs.Prelude.{List, [], ◌∷◌, Option, Some, None, ◌&&◌, ◌||◌, not, nat_le, min, ◌+◌, if◌then◌else◌}
use Rattle.std.specs.Option.{option_map, option_and_then}
use Rattle.std.specs.Bool.{MatchBool}
use Rattle.vortex_checked.specs.Exact.{is_outside}
use Rattle.vortex_errors.specs.declared.error.NumericOperator.{NumericOperator}
use Rattle.vortex_errors.specs.declared.error.NumericOperator.TheVariants as numeric
use Rattle.vortex_types.specs.declared.dtype.PType.{PType}
use Rattle.vortex_types.specs.declared.dtype.PType.TheVariants.{I32, I64}
use Rattle.vortex_types.specs.LogicalTypes.{LogicalType, integer_type}
use Rattle.vortex_types.specs.TypeEquality.{ptype_eq, ptype_yes, ptype_refl}
use Rattle.vortex_types.specs.Typing.{least_of, greatest_of}
use Rattle.vortex_types.specs.Values.{Value, null, number}
use Rattle.vortex_columns.specs.ColumnView.{ColumnView}
use Rattle.vortex_operators.specs.declared.operators.Operator.{Operator}
use Rattle.vortex_operators.specs.Arithmetic.{held, integer_of_both}
use Rattle.vortex_interface.specs.Meaning.{Meaning}
use Rattle.vortex_interface.specs.Outcomes.{Outcome, gives, faults, arithmetic}
use Rattle.vortex_interface.specs.Arithmetic.{arithmetic_of, arithmetic_type, integer_of, value_or_fault}
use Rattle.vortex_interface.specs.ComparisonTrees.{operated}
use Rattle.vortex_interface.specs.Shipped.{Binary}
use Rattle.vortex_interface.specs.Shipped.BinaryFunction.{operator_means, operator_type}
use Rattle.vortex_interface.specs.Functions.{ours, call_type}
use Rattle.vortex_interface.specs.Trees.{Tree, trees_of}
use Rattle.vortex_interface.specs.Eval.{eval, tree_type, tree_types, all_give, with_first, then_means, with_type, types_or_none}
use Rattle.vortex_logical.specs.Digits.{Digits, digits_of}
use Rattle.vortex_logical.specs.declared.kind.Kind.TheVariants.{Plain, Date, Timestamp, Decimal, F64, F32}
use Rattle.vortex_logical.specs.declared.operand.Operand.{Operand}
use Rattle.vortex_logical.specs.declared.operand.Operand.TheVariants.{Whole, Of}
use Rattle.vortex_logical.specs.CommonKinds.{product_digits, decimal_operand, whole_digits}
use Rattle.vortex_logical.specs.StandsFor as logical
use Rattle.vortex_lowering.specs.Operands.{operand_ptype, lacking, held_at}
use Rattle.vortex_lowering.specs.Results.{result_operand, are_computed, met_scale, IsResult, stored_of, type_holds, result_held}
use Rattle.vortex_lowering.specs.Rows.{Lowered, lowered, IsOfType, IsTyped, IsRow}
use Rattle.vortex_lowering.specs.LoweredTrees.{arithmetic_operator, tree_at_scale, computed_tree}
use Rattle.vortex_lowering.specs.Computing.{Computes}
use Rattle.vortex_lowering.proofs.StoredResults.{computed_value}
use Rattle.vortex_lowering.proofs.LengthenedTrees.{IsLengthened, some_same, scaled_typed}
use Rattle.vortex_lowering.proofs.LengthenedRows.{or_fault, RowValue, row_outcome}

-- operands and result are stored in one integer type
abbrev SamePTypes : Operand → Operand → Operand → Type 0
SamePTypes a b c = (operand_ptype b ≡ operand_ptype a) × (operand_ptype c ≡ operand_ptype a)

whole_result : (p q : PType) (c : Operand) → ptype_eq p q ≡ true → (if ptype_eq p q then Some (Whole p) else None) ≡ Some c
    → SamePTypes (Whole p) (Whole q) c
whole_result p q c r e =
    let is = some_same (Whole p) c ((λ i. if sym r i then Some (Whole p) else None) ∙ e) in
    (ap (λ k. Some k) (sym (ptype_yes p q r)), ap operand_ptype (sym is))

decimal_result : (g : Digits) (c : Operand) → Some (Of (Decimal g)) ≡ Some c → operand_ptype c ≡ Some I64
decimal_result g c e = ap operand_ptype (sym (some_same (Of (Decimal g)) c e))

product_result : (d e : Digits) (c : Operand) → decimal_operand (product_digits d e) ≡ Some c → operand_ptype c ≡ Some I64
product_result d e c h = by (nat_le (d.scale + e.scale) 18) h
  where
    by : (b : Bool) → decimal_operand (if b then Some (digits_of (min 18 (d.precision + e.precision)) (d.scale + e.scale)) else None) ≡ Some c
        → operand_ptype c ≡ Some I64
    by true h = decimal_result (digits_of (min 18 (d.precision + e.precision)) (d.scale + e.scale)) c h
    by false h = cc

decimals_met : (o : NumericOperator) (d e : Digits) (c : Operand) → result_operand o (Of (Decimal d)) (Of (Decimal e)) ≡ Some c
    → operand_ptype c ≡ Some I64
decimals_met numeric.Add d e c h = decimal_result _ c h
decimals_met numeric.Sub d e c h = decimal_result _ c h
decimals_met numeric.Mul d e c h = product_result d e c h
decimals_met numeric.Div d e c h = cc

decimal_and_whole : (o : NumericOperator) (d : Digits) (p : PType) (c : Operand) → result_operand o (Of (Decimal d)) (Whole p) ≡ Some c
    → operand_ptype c ≡ Some I64
decimal_and_whole numeric.Add d p c h = decimal_result _ c h
decimal_and_whole numeric.Sub d p c h = decimal_result _ c h
decimal_and_whole numeric.Mul d p c h = product_result d (digits_of (whole_digits p) 0) c h
decimal_and_whole numeric.Div d p c h = cc

whole_and_decimal : (o : NumericOperator) (d : Digits) (p : PType) (c : Operand) → result_operand o (Whole p) (Of (Decimal d)) ≡ Some c
    → operand_ptype c ≡ Some I64
whole_and_decimal numeric.Add d p c h = decimal_result _ c h
whole_and_decimal numeric.Sub d p c h = decimal_result _ c h
whole_and_decimal numeric.Mul d p c h = product_result (digits_of (whole_digits p) 0) d c h
whole_and_decimal numeric.Div d p c h = cc

wholes_met : (o : NumericOperator) (p q : PType) (c : Operand) → ptype_eq p q ≡ true → result_operand o (Whole p) (Whole q) ≡ Some c
    → SamePTypes (Whole p) (Whole q) c
wholes_met numeric.Add p q c r e = whole_result p q c r e
wholes_met numeric.Sub p q c r e = whole_result p q c r e
wholes_met numeric.Mul p q c r e = whole_result p q c r e
wholes_met numeric.Div p q c r e = cc

same_ptypes : (o : NumericOperator) (a b c : Operand) → are_computed o a b ≡ true → result_operand o a b ≡ Some c → SamePTypes a b c
same_ptypes o (Whole p) (Whole q) c r e = wholes_met o p q c r e
same_ptypes o (Of (Decimal d)) (Of (Decimal f)) c r e = (refl, decimals_met o d f c e)
same_ptypes o (Of (Decimal d)) (Whole p) c r e = (ap (λ k. Some k) (ptype_yes p I64 r), decimal_and_whole o d p c e)
same_ptypes o (Whole p) (Of (Decimal f)) c r e =
    let wide = ap (λ k. Some k) (sym (ptype_yes p I64 r)) in (wide, whole_and_decimal o f p c e ∙ wide)
same_ptypes numeric.Add (Of Date) (Whole p) c r e =
    (ap (λ k. Some k) (ptype_yes p I32 r), ap operand_ptype (sym (some_same (Of Date) c e)))
same_ptypes numeric.Add (Whole p) (Of Date) c r e =
    let days = ap (λ k. Some k) (sym (ptype_yes p I32 r)) in (days, ap operand_ptype (sym (some_same (Of Date) c e)) ∙ days)
same_ptypes numeric.Sub (Of Date) (Whole p) c r e =
    (ap (λ k. Some k) (ptype_yes p I32 r), ap operand_ptype (sym (some_same (Of Date) c e)))
same_ptypes numeric.Sub (Of Date) (Of Date) c r e = (refl, ap operand_ptype (sym (some_same (Whole I32) c e)))
same_ptypes numeric.Div a b c r e = cc
same_ptypes o a b c r e = cc

-- an operand that lacks digits is stored in 64 bits
lacking_left : (o : NumericOperator) (a b : Operand) → are_computed o a b ≡ true → 0 < lacking (met_scale o a b) a → operand_ptype a ≡ Some I64
lacking_left o (Of (Decimal d)) b r h = refl
lacking_left o (Whole p) (Of (Decimal e)) r h = ap (λ k. Some k) (ptype_yes p I64 r)
lacking_left numeric.Mul (Whole p) b r h = absurd (omega (arith, h))
lacking_left o (Whole p) (Whole q) r h = absurd (omega (arith, h))
lacking_left o (Whole p) (Of Date) r h = absurd (omega (arith, h))
lacking_left o (Of Plain) b r h = absurd (omega (arith, h))
lacking_left o (Of Date) b r h = absurd (omega (arith, h))
lacking_left o (Of Timestamp) b r h = absurd (omega (arith, h))
lacking_left o (Of F64) b r h = absurd (omega (arith, h))
lacking_left o (Of F32) b r h = absurd (omega (arith, h))
lacking_left o a b r h = cc

lacking_right : (o : NumericOperator) (a b : Operand) → are_computed o a b ≡ true → 0 < lacking (met_scale o a b) b → operand_ptype b ≡ Some I64
lacking_right o a (Of (Decimal d)) r h = refl
lacking_right o (Of (Decimal e)) (Whole p) r h = ap (λ k. Some k) (ptype_yes p I64 r)
lacking_right numeric.Mul a (Whole p) r h = absurd (omega (arith, h))
lacking_right o (Whole q) (Whole p) r h = absurd (omega (arith, h))
lacking_right o (Of Date) (Whole p) r h = absurd (omega (arith, h))
lacking_right o a (Of Plain) r h = absurd (omega (arith, h))
lacking_right o a (Of Date) r h = absurd (omega (arith, h))
lacking_right o a (Of Timestamp) r h = absurd (omega (arith, h))
lacking_right o a (Of F64) r h = absurd (omega (arith, h))
lacking_right o a (Of F32) r h = absurd (omega (arith, h))
lacking_right o a b r h = cc

abbrev of_computed : NumericOperator → List LogicalType → Outcome → Outcome → Outcome
of_computed o ts p q = then_means (operator_means (arithmetic_operator o) ts) (with_first p (with_first q (all_give [])))

computed_means : (o : NumericOperator) (ts : List LogicalType) (v w : Value)
    → operator_means (arithmetic_operator o) ts (v ∷ w ∷ []) ≡ arithmetic_of o (integer_of ts) v w
computed_means numeric.Add ts v w = refl
computed_means numeric.Sub ts v w = refl
computed_means numeric.Mul ts v w = refl
computed_means numeric.Div ts v w = refl

computed_rows : (o : NumericOperator) (ts : List LogicalType) (b c : Bool) (v w : Value)
    → of_computed o ts (or_fault b (gives v)) (or_fault c (gives w)) ≡ or_fault (b && c) (arithmetic_of o (integer_of ts) v w)
computed_rows o ts true true v w = computed_means o ts v w
computed_rows o ts true false v w = refl
computed_rows o ts false c v w = refl

one_type : (p : PType) (n k : Bool) → integer_of_both (integer_type p n) (integer_type p k) ≡ Some p
one_type p n k = ap (λ b. if b then Some p else None) (ptype_refl p)

computed_type : (o : NumericOperator) (p : PType) (n k : Bool)
    → operator_type (arithmetic_operator o) (integer_type p n ∷ integer_type p k ∷ []) ≡ Some (integer_type p (n || k))
computed_type o p n k = by o
  where
    same : arithmetic_type (integer_type p n ∷ integer_type p k ∷ []) ≡ Some (integer_type p (n || k))
    same = ap (option_map (λ q. integer_type q (n || k))) (one_type p n k)

    by : (o : NumericOperator)
        → operator_type (arithmetic_operator o) (integer_type p n ∷ integer_type p k ∷ []) ≡ Some (integer_type p (n || k))
    by numeric.Add = same
    by numeric.Sub = same
    by numeric.Mul = same
    by numeric.Div = same

held_outcome : (o : NumericOperator) (p : PType) (z : ℤ)
    → value_or_fault o (held p (Some z)) ≡ (if type_holds (Some p) z then gives (number z) else faults (arithmetic o))
held_outcome o p z = by (is_outside (least_of p) (greatest_of p) z)
  where
    by : (b : Bool) → value_or_fault o (if b then None else Some (number z)) ≡ (if not b then gives (number z) else faults (arithmetic o))
    by true = refl
    by false = refl

-- the value of a result
abbrev result_value : Option logical.Meaning → Value
result_value None = null
result_value (Some r) = number (stored_of r)

-- the outcome for the values of two rows
value_outcome : (o : NumericOperator) (a b c : Operand) (p : PType) → are_computed o a b ≡ true → result_operand o a b ≡ Some c
    → operand_ptype c ≡ Some p → (v w r : Option logical.Meaning) (s t : Value)
    → RowValue (met_scale o a b) a v s → RowValue (met_scale o a b) b w t → IsResult o v w r
    → arithmetic_of o (Some p) s t ≡ (if result_held c r then gives (result_value r) else faults (arithmetic o))
value_outcome o a b c p l e q (Some v) (Some w) (Some r) s t h g k =
    let done = computed_value o a b c l e h.0 g.0 v w r h.2 g.2 k in
    (λ i. arithmetic_of o (Some p) (h.1 i) (g.1 i))
    ∙ ap (λ x. value_or_fault o (held p x)) done.0
    ∙ held_outcome o p (stored_of r)
    ∙ ap (λ x. if type_holds x (stored_of r) then gives (number (stored_of r)) else faults (arithmetic o)) (sym q)
value_outcome o a b c p l e q (Some v) (Some w) None s t h g k = absurd k
value_outcome o a b c p l e q (Some v) None r s t h g k =
    (λ i. arithmetic_of o (Some p) (h.1 i) (g i))
    ∙ ap (λ x. if result_held c x then gives (result_value x) else faults (arithmetic o)) (sym k)
value_outcome o a b c p l e q None w r s t h g k =
    ap (λ x. arithmetic_of o (Some p) x t) h
    ∙ ap (λ x. if result_held c x then gives (result_value x) else faults (arithmetic o)) (sym k)

-- the tree of the definition, from its parts
pub computed_made : {V O : Type 0} (o : NumericOperator) (x y : Lowered V O) (u : ℕ) (p : Operator) (l r : Tree V O)
    → u ≡ met_scale o x.operand y.operand → p ≡ arithmetic_operator o → l ≡ tree_at_scale u x → r ≡ tree_at_scale u y
    → operated p l r ≡ computed_tree o x y
computed_made o x y u p l r e f g h =
    (λ i. operated (f i) (g i) (h i)) ∙ (λ i. operated (arithmetic_operator o) (tree_at_scale (e i) x) (tree_at_scale (e i) y))

module _ {V O : Type 0} (m : Meaning V O) where
  -- a row with that outcome
  row_of : (z : Lowered V O) (cs : List ColumnView) (i : ℕ) (o : NumericOperator) (h g : Bool) (r : Option logical.Meaning)
      → (eval m cs z.tree i ≡ gives (result_value r) → IsRow m cs i z r)
      → eval m cs z.tree i ≡ or_fault h (if g then gives (result_value r) else faults (arithmetic o))
      → MatchBool h (MatchBool g (IsRow m cs i z r) (eval m cs z.tree i ≡ faults (arithmetic o)))
      (eval m cs z.tree i ≡ faults (arithmetic numeric.Mul))
  row_of z cs i o true true r f e = f e
  row_of z cs i o true false r f e = e
  row_of z cs i o false g r f e = e

  module _ (o : NumericOperator) (x y z : Lowered V O) (shipped : are_computed o x.operand y.operand ≡ true)
      (kind : result_operand o x.operand y.operand ≡ Some z.operand) (tx : IsTyped m x) (ty : IsTyped m y) where
    same_type : ty.0 ≡ tx.0
    same_type = some_same ty.0 tx.0 (sym ty.1 ∙ (same_ptypes o x.operand y.operand z.operand shipped kind).0 ∙ tx.1)

    right_typed : IsOfType m tx.0 y.tree
    right_typed = subst (λ p. IsOfType m p y.tree) same_type ty.2

    result_ptype : operand_ptype z.operand ≡ Some tx.0
    result_ptype = (same_ptypes o x.operand y.operand z.operand shipped kind).1 ∙ tx.1

    left : IsLengthened m (lacking (met_scale o x.operand y.operand) x.operand) x.tree (tree_at_scale (met_scale o x.operand y.operand) x)
    left = scaled_typed m (met_scale o x.operand y.operand) x (lacking_left o x.operand y.operand shipped) tx

    right : IsLengthened m (lacking (met_scale o x.operand y.operand) y.operand) y.tree (tree_at_scale (met_scale o x.operand y.operand) y)
    right = scaled_typed m (met_scale o x.operand y.operand) y (lacking_right o x.operand y.operand shipped) ty

    abbrev pair_type : Option LogicalType → Option LogicalType → Option LogicalType
    pair_type a b = option_and_then (call_type m (ours (Binary (arithmetic_operator o)))) (with_type a (with_type b (Some [])))

    pub result_type : IsOfType m tx.0 (computed_tree o x y)
    result_type =
        let h = left.keeps tx.0 tx.2 in
        let k = right.keeps tx.0 right_typed in
        (h.0 || k.0, (λ i. pair_type (h.1 i) (k.1 i)) ∙ computed_type o tx.0 h.0 k.0)

    module _ (is : z.tree ≡ computed_tree o x y) where
      pub result_typed : IsTyped m z
      result_typed = (tx.0, result_ptype, subst (IsOfType m tx.0) (sym is) result_type)

      pub computes : Computes m o x y z
      computes cs i v w q hx hy e =
          let u = met_scale o x.operand y.operand in
          let l = tree_at_scale u x in
          let r = tree_at_scale u y in
          let h = left.keeps tx.0 tx.2 in
          let k = right.keeps tx.0 right_typed in
          let ts = types_or_none (tree_types m (trees_of (l ∷ r ∷ []))) in
          let one = row_outcome m u x l left cs i v hx in
          let two = row_outcome m u y r right cs i w hy in
          let integer : integer_of ts ≡ Some tx.0 =
          (λ j. integer_of (types_or_none (with_type (h.1 j) (with_type (k.1 j) (Some []))))) ∙ one_type tx.0 h.0 k.0 in
          let outcome = value_outcome o x.operand y.operand z.operand tx.0 shipped kind result_ptype v w q one.0 two.0 one.2 two.2 e in
          row_of z cs i o (held_at u x.operand v && held_at u y.operand w) (result_held z.operand q) q
          (meaning cs i v w q hx hy e)
          (ap (λ s. eval m cs s i) is
          ∙ (λ j. of_computed o ts (one.1 j) (two.1 j))
          ∙ computed_rows o ts (held_at u x.operand v) (held_at u y.operand w) one.0 two.0
          ∙ ap (λ p. or_fault (held_at u x.operand v && held_at u y.operand w) (arithmetic_of o p one.0 two.0)) integer
          ∙ ap (or_fault (held_at u x.operand v && held_at u y.operand w)) outcome)
        where
          meaning : (cs : List ColumnView) (i : ℕ) (v w q : Option logical.Meaning) → IsRow m cs i x v → IsRow m cs i y w → IsResult o v w q
              → eval m cs z.tree i ≡ gives (result_value q) → IsRow m cs i z q
          meaning cs i v w None hx hy e g = g
          meaning cs i (Some v) (Some w) (Some q) hx hy e g =
              let done = computed_value o x.operand y.operand z.operand shipped kind hx.stored hy.stored v w q hx.means hy.means e in
              record { stored = stored_of q; given = g; means = done.1 }
          meaning cs i None w (Some q) hx hy e g = cc
          meaning cs i (Some v) None (Some q) hx hy e g = cc

  -- so no type means that one is not of its stored type
  pub result_none : (o : NumericOperator) (x y : Lowered V O) (c : Operand) → are_computed o x.operand y.operand ≡ true
      → result_operand o x.operand y.operand ≡ Some c → (t : Tree V O) → t ≡ computed_tree o x y → tree_type m t ≡ None
      → (tree_type m (computed_tree o x y) ≡ None) × ¬ (IsTyped m x × IsTyped m y)
  result_none o x y c shipped kind t is e =
      let none : tree_type m (computed_tree o x y) ≡ None = ap (tree_type m) (sym is) ∙ e in
      (none, λ h. let some = result_type o x y (lowered x.tree c) shipped kind h.0 h.1 in let typed = some.1 in cc)
