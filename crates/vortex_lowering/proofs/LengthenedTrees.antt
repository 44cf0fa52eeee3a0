-- Trees with more digits after the point: their rows, and their types.
use Rattle.std.proofs.Common.{◌≡◌, ◌∙◌, ◌<◌, ◌^◌, ℕ, zero, suc, ℤ, pos, Bool, true, false, refl, ap, sym, subst, arith}
use Rattle.std.specs.Prelude.{List, [], ◌∷◌, Option, Some, None, not, ◌||◌, is_some, option_and_then, if◌then◌else◌}
use Rattle.vortex_checked.specs.Exact.{is_outside}
use Rattle.vortex_errors.specs.declared.error.NumericOperator.TheVariants as numeric
use Rattle.vortex_types.specs.declared.dtype.PType.{PType}
use Rattle.vortex_types.specs.declared.dtype.PType.TheVariants.{I64}
use Rattle.vortex_types.specs.LogicalTypes.{LogicalType, integer_type}
use Rattle.vortex_types.specs.ScalarView.{ScalarView}
use Rattle.vortex_types.specs.Typing.{least_of, greatest_of}
use Rattle.vortex_types.specs.Values.{Value, null, number}
use Rattle.vortex_columns.specs.ColumnView.{ColumnView}
use Rattle.vortex_columns.specs.ScalarOf.{int_scalar}
use Rattle.vortex_columns.specs.SingleParts.{number_of}
use Rattle.vortex_operators.specs.declared.operators.Operator.TheVariants.{Mul}
use Rattle.vortex_interface.specs.Meaning.{Meaning}
use Rattle.vortex_interface.specs.Outcomes.{Outcome, gives, faults, arithmetic}
use Rattle.vortex_interface.specs.Arithmetic.{value_or_fault}
use Rattle.vortex_interface.specs.ComparisonTrees.{operated}
use Rattle.vortex_interface.specs.Shipped.{Binary}
use Rattle.vortex_interface.specs.Shipped.BinaryFunction.{operator_means}
use Rattle.vortex_interface.specs.Functions.{ours, call_type}
use Rattle.vortex_interface.specs.Trees.{Tree, leaf, constant, call}
use Rattle.vortex_interface.specs.Eval.{eval, tree_type, all_give, with_first, then_means, with_type, types_or_none}
use Rattle.vortex_logical.specs.Decimals.{shifted}
use Rattle.vortex_lowering.specs.Operands.{operand_ptype, lacking, is_held}
use Rattle.vortex_lowering.specs.Rows.{Lowered, IsOfType, IsTyped}
use Rattle.vortex_lowering.specs.LoweredTrees.{is_wide, longer_number, constant_number, constant_or}
use Rattle.vortex_lowering.specs.LoweredTrees.{multiplied_tree, lengthened_tree, tree_at_scale}

-- what options have
pub some_same : {A : Type 0} (x y : A) → Some x ≡ Some y → x ≡ y
some_same x y e = cc

same_integer : (p q : PType) (n k : Bool) → Some (integer_type p n) ≡ Some (integer_type q k) → p ≡ q
same_integer p q n k e = cc

-- the outcome of a row with k digits more; E7 where 64 bits do not hold it
abbrev pub lengthened : ℕ → Outcome → Outcome
lengthened zero o = o
lengthened (suc k) (faults f) = faults f
lengthened (suc k) (gives (number z)) =
    if is_held (suc k) z then gives (number (shifted z (suc k))) else faults (arithmetic numeric.Mul)
lengthened (suc k) (gives v) = gives null

-- the second tree has the numbers of the first with k digits more, in the same type
pub record IsLengthened {V O : Type 0} (m : Meaning V O) (k : ℕ) (t u : Tree V O) : Type 0 where
  pub rows : (cs : List ColumnView) (i : ℕ) → eval m cs u i ≡ lengthened k (eval m cs t i)
  pub keeps : (p : PType) → IsOfType m p t → IsOfType m p u

-- the tree is the constant of a number of 64 bits
record IsWideConstant {V O : Type 0} (z : ℤ) (t : Tree V O) : Type 0 where
  pub scalar : ScalarView
  pub is : t ≡ constant scalar
  pub nullable : Bool
  pub dtype : scalar.dtype ≡ integer_type I64 nullable
  pub value : scalar.value ≡ number z

wide_type : (t : LogicalType) → is_wide t ≡ true → (n : Bool) × (t ≡ integer_type I64 n)
wide_type (integer_type I64 n) h = (n, refl)
wide_type t h = cc

numbered : (v : Value) (z : ℤ) → number_of v ≡ Some z → v ≡ number z
numbered (number y) z e = ap number (some_same y z e)
numbered v z e = cc

wide_constant : {V O : Type 0} (t : Tree V O) (z : ℤ) → constant_number t ≡ Some z → IsWideConstant z t
wide_constant (leaf l) z e = cc
wide_constant (call f ts) z e = cc
wide_constant {V} {O} (constant s) z e = by (is_wide s.dtype) refl e
  where
    by : (b : Bool) → is_wide s.dtype ≡ b → (if b then number_of s.value else None) ≡ Some z
        → IsWideConstant {V = V} {O = O} z (constant s)
    by true w h = let d = wide_type s.dtype w in
        record { scalar = s; is = refl; nullable = d.0; dtype = d.1; value = numbered s.value z h }
    by false w h = cc

-- the longer number of a constant, where 64 bits hold it
record IsLongerConstant {V O : Type 0} (k : ℕ) (t : Tree V O) (z : ℤ) : Type 0 where
  pub number : ℤ
  pub constant : IsWideConstant number t
  pub held : is_held k number ≡ true
  pub is : shifted number k ≡ z

longer_constant : {V O : Type 0} (k : ℕ) (t : Tree V O) (z : ℤ) → option_and_then (longer_number k) (constant_number t) ≡ Some z
    → IsLongerConstant k t z
longer_constant k t z e = by (constant_number t) refl e
  where
    held : (y : ℤ) (b : Bool) → is_held k y ≡ b → constant_number t ≡ Some y → (if b then Some (shifted y k) else None) ≡ Some z
        → IsLongerConstant k t z
    held y true h c e = record { number = y; constant = wide_constant t y c; held = h; is = some_same (shifted y k) z e }
    held y false h c e = cc

    by : (o : Option ℤ) → constant_number t ≡ o → option_and_then (longer_number k) o ≡ Some z → IsLongerConstant k t z
    by None c e = cc
    by (Some y) c e = held y (is_held k y) refl c e

-- a product by a number of 64 bits
product_outcome : (k : ℕ) (n : Bool) (o : Outcome)
    → then_means (operator_means Mul (integer_type I64 n ∷ integer_type I64 false ∷ []))
    (with_first o (all_give (number (pos (10 ^ suc k)) ∷ []))) ≡ lengthened (suc k) o
product_outcome k n (faults f) = refl
product_outcome k n (gives (number z)) = by (is_outside (least_of I64) (greatest_of I64) (shifted z (suc k)))
  where
    by : (b : Bool) → value_or_fault numeric.Mul (if b then None else Some (number (shifted z (suc k))))
        ≡ (if not b then gives (number (shifted z (suc k))) else faults (arithmetic numeric.Mul))
    by true = refl
    by false = refl
product_outcome k n (gives v) = refl

-- the product is the tree of the definition where there is no longer constant
pub product_made : {V O : Type 0} (k : ℕ) (t factor : Tree V O) → (k ≡ 0 → ⊥)
    → option_and_then (longer_number k) (constant_number t) ≡ None → factor ≡ constant (int_scalar I64 (pos (10 ^ k)))
    → operated Mul t factor ≡ lengthened_tree k t
product_made zero t factor h e f = absurd (h refl)
product_made (suc k) t factor h e f =
    ap (operated Mul t) f ∙ sym (ap (λ o. constant_or o (multiplied_tree (suc k) t)) e)

module _ {V O : Type 0} (m : Meaning V O) where
  -- the type of a product by a number of 64 bits
  abbrev product_type : Option LogicalType → Option LogicalType
  product_type o = option_and_then (call_type m (ours (Binary Mul))) (with_type o (Some (integer_type I64 false ∷ [])))

  factor_type : (t : LogicalType) → is_some (product_type (Some t)) ≡ true → (n : Bool) × (t ≡ integer_type I64 n)
  factor_type (integer_type I64 n) h = (n, refl)
  factor_type (integer_type p n) h = cc
  factor_type t h = cc

  product_wide : (o : Option LogicalType) → is_some (product_type o) ≡ true → (n : Bool) × (o ≡ Some (integer_type I64 n))
  product_wide None h = cc
  product_wide (Some t) h = let f = factor_type t h in (f.0, ap Some f.1)

  constant_wide : (t : Tree V O) (z : ℤ) → IsWideConstant z t → IsOfType m I64 t
  constant_wide t z h = (h.nullable, ap (tree_type m) h.is ∙ ap Some h.dtype)

  -- the tree with digits more has a type only where it is of 64 bits
  pub wide : (k : ℕ) (t : Tree V O) → is_some (tree_type m (lengthened_tree k t)) ≡ true → 0 < k → IsOfType m I64 t
  wide zero t h f = absurd (omega (arith, f))
  wide (suc k) t h f = by (option_and_then (longer_number (suc k)) (constant_number t)) refl h
    where
      by : (o : Option ℤ) → option_and_then (longer_number (suc k)) (constant_number t) ≡ o
          → is_some (tree_type m (constant_or o (multiplied_tree (suc k) t))) ≡ true → IsOfType m I64 t
      by None e h = product_wide (tree_type m t) h
      by (Some z) e h = let c = longer_constant (suc k) t z e in constant_wide t c.number c.constant

  -- a tree is of one integer type
  one_ptype : (p q : PType) (t : Tree V O) → IsOfType m p t → IsOfType m q t → p ≡ q
  one_ptype p q t g h = same_integer p q g.0 h.0 (sym g.1 ∙ h.1)

  product_rows : (k : ℕ) (t : Tree V O) → IsOfType m I64 t → IsLengthened m (suc k) t (multiplied_tree (suc k) t)
  product_rows k t h = record {
    rows = λ cs i. ap (λ o. then_means (operator_means Mul (types_or_none (with_type o (Some (integer_type I64 false ∷ [])))))
        (with_first (eval m cs t i) (all_give (number (pos (10 ^ suc k)) ∷ [])))) h.1
        ∙ product_outcome k h.0 (eval m cs t i);
    keeps = λ p g. subst (λ q. IsOfType m q (multiplied_tree (suc k) t)) (sym (one_ptype p I64 t g h))
        (h.0 || false, ap product_type h.1);
  }

  constant_rows : (k : ℕ) (t : Tree V O) (z : ℤ) → IsLongerConstant (suc k) t z → IsLengthened m (suc k) t (constant (int_scalar I64 z))
  constant_rows k t z c =
      let it = c.constant in record {
        rows = λ cs i. sym (ap (λ u. lengthened (suc k) (eval m cs u i)) it.is ∙ ap (λ v. lengthened (suc k) (gives v)) it.value
            ∙ (λ j. if c.held j then gives (number (c.is j)) else faults (arithmetic numeric.Mul)));
        keeps = λ p g. subst (λ q. IsOfType m q (constant (int_scalar I64 z))) (sym (one_ptype p I64 t g (constant_wide t c.number it)))
            (false, refl);
      }

  pub is_lengthened : (k : ℕ) (t : Tree V O) → (0 < k → IsOfType m I64 t) → IsLengthened m k t (lengthened_tree k t)
  is_lengthened zero t h = record { rows = λ cs i. refl; keeps = λ p g. g }
  is_lengthened (suc k) t h = by (option_and_then (longer_number (suc k)) (constant_number t)) refl
    where
      by : (o : Option ℤ) → option_and_then (longer_number (suc k)) (constant_number t) ≡ o
          → IsLengthened m (suc k) t (constant_or o (multiplied_tree (suc k) t))
      by None e = product_rows k t (h (omega arith))
      by (Some z) e = constant_rows k t z (longer_constant (suc k) t z e)

  -- what has a type has the rows
  pub scaled : (u : ℕ) (x : Lowered V O) → is_some (tree_type m (tree_at_scale u x)) ≡ true
      → IsLengthened m (lacking u x.operand) x.tree (tree_at_scale u x)
  scaled u x h = is_lengthened (lacking u x.operand) x.tree (wide (lacking u x.operand) x.tree h)

  -- and an operand of its stored type, which is of 64 bits if it lacks digits
  pub scaled_typed : (u : ℕ) (x : Lowered V O) → (0 < lacking u x.operand → operand_ptype x.operand ≡ Some I64) → IsTyped m x
      → IsLengthened m (lacking u x.operand) x.tree (tree_at_scale u x)
  scaled_typed u x w h =
      is_lengthened (lacking u x.operand) x.tree
      (λ f. subst (λ p. IsOfType m p x.tree) (some_same h.0 I64 (sym h.1 ∙ w f)) h.2)
