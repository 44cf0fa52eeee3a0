-- The rows of the trees that calls on values of kinds make.
use Rattle.std.proofs.Common.{◌≡◌, Bool, true, false, cond, Option, Some, None, ap, sym, ◌∙◌, refl}
use Rattle.std.specs.Prelude.{is_some}
use Rattle.vortex_errors.specs.declared.error.NumericOperator.{NumericOperator}
use Rattle.vortex_interface.specs.Eval.{tree_type}
use Rattle.vortex_logical.specs.declared.operand.Operand.{Operand}
use Rattle.vortex_logical.specs.CommonKinds.{common_operand}
use Rattle.vortex_logical.specs.Decimals.{RescalingOrders}
use Rattle.vortex_logical.specs.StandsFor.{StoredValuesAreOrdered}
use Rattle.vortex_lowering.specs.declared.refusal.Refusal.TheVariants.{NoCommonKind, NotShipped}
use Rattle.vortex_lowering.specs.Rows.{lowered}
use Rattle.vortex_lowering.specs.Operands.{are_shipped}
use Rattle.vortex_lowering.specs.Results.{result_operand, are_computed}
use Rattle.vortex_lowering.specs.LoweredTrees.{compared_tree, bounded_tree, computed_tree}
use Rattle.vortex_lowering.proofs.RowComparisons.{compares}
use Rattle.vortex_lowering.proofs.RowBounds.{bounds}
use Rattle.vortex_lowering.proofs.RowResults.{computes}
use Rattle.vortex_logical_calls.specs.Outcomes.{Outcome, made, refused, untyped, and_then}
use Rattle.vortex_logical_calls.specs.Calls.{Tree, Lowered, meaning, typed}
use Rattle.vortex_logical_calls.specs.Conversions.{conversion_beside, conversion_by_two, converted}
use Rattle.vortex_logical_calls.specs.Comparison.{if_met}
use Rattle.vortex_logical_calls.specs.Computation.{of_operand, of_result, compute_met, compute_floats}
use Rattle.vortex_logical_calls.specs.Computation.{compute_exact}
use Rattle.vortex_logical_calls.specs.RowLaws.{ComparisonsGoByOrder, BoundsGoByOrder}
use Rattle.vortex_logical_calls.specs.RowLaws.{ComputationsAreExact}

pub made_is : {A : Type 0} (a b : A) → made a ≡ made b → a ≡ b
made_is a b e = cc

-- the outcomes before one that is made
pub record After {A B : Type 0} (o : Outcome A) (f : A → Outcome B) (b : B) : Type 0 where
  pub a : A
  pub first : o ≡ made a
  pub then : f a ≡ made b

pub after_is : {A B : Type 0} (o : Outcome A) (f : A → Outcome B) (b : B) → and_then o f ≡ made b
    → After o f b
after_is (made a) f b e = record { a = a; first = refl; then = e }
after_is (refused r) f b e = absurd cc
after_is untyped f b e = absurd cc

-- a tree with a type
pub record IsMade (t u : Tree) : Type 0 where
  pub is : u ≡ t
  pub takes : is_some (tree_type meaning u) ≡ true

pub typed_made : (t u : Tree) → typed t ≡ made u → IsMade t u
typed_made t u e = by (is_some (tree_type meaning t)) refl e
  where
    by : (b : Bool) → is_some (tree_type meaning t) ≡ b → cond b (made t) untyped ≡ made u
        → IsMade t u
    by true h g =
        let same = made_is t u g in
        record { is = sym same; takes = ap (λ s. is_some (tree_type meaning s)) (sym same) ∙ h }
    by false h g = absurd cc

-- operands that meet and are shipped
record IsMet {A : Type 0} (a b : Operand) (o : Outcome A) (c : A) : Type 0 where
  shipped : are_shipped a b ≡ true
  made_by : o ≡ made c

met_made : {A : Type 0} (a b : Operand) (o : Outcome A) (c : A) → if_met a b o ≡ made c
    → IsMet a b o c
met_made {A} a b o c e = by (is_some (common_operand a b)) (are_shipped a b) refl e
  where
    by : (d s : Bool) → are_shipped a b ≡ s
        → cond d (cond s o (refused (NotShipped a b))) (refused (NoCommonKind a b)) ≡ made c
        → IsMet a b o c
    by true true h g = record { shipped = h; made_by = g }
    by true false h g = absurd cc
    by false s h g = absurd cc

module _ (ordered : StoredValuesAreOrdered) (orders : RescalingOrders) where
  pub comparisons : ComparisonsGoByOrder
  comparisons op x y t e =
      let one = after_is (converted (conversion_beside x.operand y.operand) x) _ t e in
      let two = after_is (converted (conversion_beside y.operand x.operand) y) _ t one.then in
      let met = met_made one.a.operand two.a.operand (typed (compared_tree op one.a two.a)) t two.then in
      let m = typed_made (compared_tree op one.a two.a) t met.made_by in
      record {
        a = one.a;
        b = two.a;
        left = one.first;
        right = two.first;
        rows = compares meaning op one.a two.a met.shipped ordered orders t m.is m.takes;
      }

  pub all_bounds : BoundsGoByOrder
  all_bounds o x low high t e =
      let one = after_is (converted (conversion_by_two x.operand low.operand high.operand) x) _ t e in
      let two = after_is (converted (conversion_by_two low.operand x.operand high.operand) low) _ t one.then in
      let three = after_is (converted (conversion_by_two high.operand x.operand low.operand) high) _ t two.then in
      let tree = typed (bounded_tree o one.a two.a three.a) in
      let lower = met_made two.a.operand one.a.operand (if_met one.a.operand three.a.operand tree) t three.then in
      let upper = met_made one.a.operand three.a.operand tree t lower.made_by in
      let m = typed_made (bounded_tree o one.a two.a three.a) t upper.made_by in
      record {
        a = one.a;
        b = two.a;
        c = three.a;
        operand = one.first;
        lower = two.first;
        upper = three.first;
        rows =
            bounds meaning o one.a two.a three.a lower.shipped upper.shipped ordered orders t m.is m.takes;
      }

-- results
record IsResultOf (o : NumericOperator) (a b z : Lowered) : Type 0 where
  kind : result_operand o a.operand b.operand ≡ Some z.operand
  shipped : are_computed o a.operand b.operand ≡ true
  is : z.tree ≡ computed_tree o a b

result_made : (o : NumericOperator) (a b z : Lowered) → compute_met o a b ≡ made z → IsResultOf o a b z
result_made o a b z e =
    by (result_operand o a.operand b.operand) (are_computed o a.operand b.operand) refl refl e
  where
    operand_made : (c : Operand) (p : Outcome Tree) → p ≡ typed (computed_tree o a b)
        → result_operand o a.operand b.operand ≡ Some c → are_computed o a.operand b.operand ≡ true
        → of_operand c p ≡ made z → IsResultOf o a b z
    operand_made c (made t) q r s g =
        let same = made_is (lowered t c) z g in
        record {
          kind = r ∙ ap (λ y. Some y.operand) same;
          shipped = s;
          is = sym (ap (λ y. y.tree) same) ∙ (typed_made (computed_tree o a b) t (sym q)).is;
        }
    operand_made c (refused f) q r s g = absurd cc
    operand_made c untyped q r s g = absurd cc

    by : (c : Option Operand) (s : Bool) → result_operand o a.operand b.operand ≡ c
        → are_computed o a.operand b.operand ≡ s
        → of_result s a b c (typed (computed_tree o a b)) ≡ made z → IsResultOf o a b z
    by None s h k g = absurd cc
    by (Some c) true h k g = operand_made c (typed (computed_tree o a b)) refl h k g
    by (Some c) false h k g = absurd cc

pub computations : ComputationsAreExact
computations o x y z f e =
    let exact : compute_exact o x y ≡ made z =
    ap (λ c. cond c (compute_floats o x y) (compute_exact o x y)) (sym f) ∙ e in
    let one = after_is (converted (conversion_beside x.operand y.operand) x) _ z exact in
    let two = after_is (converted (conversion_beside y.operand x.operand) y) _ z one.then in
    let r = result_made o one.a two.a z two.then in
    record {
      a = one.a;
      b = two.a;
      left = one.first;
      right = two.first;
      rows = λ h k. computes meaning o one.a two.a z r.shipped r.kind h k r.is;
    }
