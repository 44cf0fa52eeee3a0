-- The outcomes of the calls of shipped functions, from their contracts.
use Rattle.std.proofs.Common.{◌≡◌, Bool, true, false, cond, Option, Some, None, Result, Ok, Err}
use Rattle.std.proofs.Common.{ap, sym, ◌∙◌, inl, inr}
use Rattle.std.specs.Prelude.{is_some, IsSome, MatchResult}
use Rattle.std.proofs.lemmas.Bool.{false≢true}
use Rattle.vortex_errors.specs.declared.error.NumericOperator.{NumericOperator}
use Rattle.vortex_errors.specs.declared.error.VortexError.{VortexError}
use Rattle.vortex_errors.specs.Answers.{UnlessMemory}
use Rattle.vortex_errors.proofs.Answering.{UnlessMemory-weaker}
use Rattle.vortex_operators.specs.declared.operators.CompareOperator.{CompareOperator}
use Rattle.vortex_operators.specs.declared.between.BetweenOptions.{BetweenOptions}
use Rattle.vortex_interface.specs.Eval.{tree_type}
use Rattle.vortex_logical.specs.declared.operand.Operand.{Operand}
use Rattle.vortex_logical.specs.CommonKinds.{common_operand}
use Rattle.vortex_lowering.specs.declared.refusal.Refusal.{Refusal}
use Rattle.vortex_lowering.specs.declared.refusal.Refusal.TheVariants as refusal
use Rattle.vortex_lowering.specs.Operands.{are_shipped, scale_of}
use Rattle.vortex_lowering.specs.Results.{result_operand, are_computed}
use Rattle.vortex_lowering.specs.Comparing.{AreCompared, RefusesPair, IsCompared}
use Rattle.vortex_lowering.specs.Comparing.{RefusesComparison}
use Rattle.vortex_lowering.specs.Bounding.{IsBounded, RefusesBounds}
use Rattle.vortex_lowering.specs.Computing.{AreComputed, IsComputed, RefusesResult}
use Rattle.vortex_lowering.specs.Rows.{IsTyped}
use Rattle.vortex_lowering.specs.LoweredTrees.{compared_tree, bounded_tree, computed_tree, tree_at_scale}
use Rattle.vortex_lowering.specs.Aligning.{IsAligned, RefusesAligning}
use Rattle.vortex_logical_calls.specs.Outcomes.{Outcome, made, refused, untyped, FailsBy, Makes}
use Rattle.vortex_logical_calls.specs.Calls.{Tree, Lowered, meaning, typed}
use Rattle.vortex_logical_calls.specs.Comparison.{if_met, compare_met}
use Rattle.vortex_logical_calls.specs.Bounds.{between_met}
use Rattle.vortex_logical_calls.specs.Computation.{of_operand, of_result, compute_met}
use Rattle.vortex_logical_calls.specs.Alignment as alignment

-- a tree with a type, and one without
pub typed_is : (t : Tree) → is_some (tree_type meaning t) ≡ true → typed t ≡ made t
typed_is t h = ap (λ b. cond b (made t) untyped) h

pub typed_none : (t : Tree) → tree_type meaning t ≡ None → typed t ≡ untyped
typed_none t h = ap (λ o. cond (is_some o) (made t) untyped) h

module _ {A : Type 0} (a b : Operand) (o : Outcome A) where
  abbrev Shipped : Bool → Outcome A
  Shipped s = cond s o (refused (refusal.NotShipped a b))

  abbrev Met : Bool → Bool → Outcome A
  Met c s = cond c (Shipped s) (refused (refusal.NoCommonKind a b))

  met_is : AreCompared a b → if_met a b o ≡ o
  met_is h =
      ap (λ c. Met c (are_shipped a b)) h.0 ∙ ap Shipped h.1

  no_common : common_operand a b ≡ None → if_met a b o ≡ refused (refusal.NoCommonKind a b)
  no_common h = ap (λ c. Met (is_some c) (are_shipped a b)) h

  not_shipped : IsSome (common_operand a b) → are_shipped a b ≡ false
      → if_met a b o ≡ refused (refusal.NotShipped a b)
  not_shipped h k = ap (λ c. Met c (are_shipped a b)) h ∙ ap Shipped k

  pair_refused : (e : Refusal) → RefusesPair a b e → if_met a b o ≡ refused e
  pair_refused (refusal.NoCommonKind c d) h =
      no_common h.2 ∙ ap (λ x. refused (refusal.NoCommonKind x b)) (sym h.0)
      ∙ ap (λ x. refused (refusal.NoCommonKind c x)) (sym h.1)
  pair_refused (refusal.NotShipped c d) h =
      not_shipped h.2 h.3 ∙ ap (λ x. refused (refusal.NotShipped x b)) (sym h.0)
      ∙ ap (λ x. refused (refusal.NotShipped c x)) (sym h.1)
  pair_refused (refusal.NotOfKind k) h = absurd h
  pair_refused (refusal.NotStored k) h = absurd h
  pair_refused (refusal.Binding e) h = absurd h

-- a comparison
abbrev NoComparison : CompareOperator → Lowered → Lowered → Type 0
NoComparison op x y =
    AreCompared x.operand y.operand × (tree_type meaning (compared_tree op x y) ≡ None)
    × ¬ (IsTyped meaning x × IsTyped meaning y)

comparison_fails : (op : CompareOperator) (x y : Lowered) (e : Refusal)
    → RefusesComparison meaning op x y e → FailsBy (compare_met op x y) e
comparison_fails op x y (refusal.Binding e) h =
    UnlessMemory-weaker (λ e. NoComparison op x y) (λ e. compare_met op x y ≡ untyped)
    (λ e k. met_is x.operand y.operand _ k.0 ∙ typed_none (compared_tree op x y) k.1) e h
comparison_fails op x y (refusal.NoCommonKind c d) h =
    pair_refused x.operand y.operand _ (refusal.NoCommonKind c d) h
comparison_fails op x y (refusal.NotShipped c d) h =
    pair_refused x.operand y.operand _ (refusal.NotShipped c d) h
comparison_fails op x y (refusal.NotOfKind k) h = absurd h
comparison_fails op x y (refusal.NotStored k) h = absurd h

pub comparison_made : (op : CompareOperator) (x y : Lowered) (r : Result Tree Refusal)
    → MatchResult r (IsCompared meaning op x y) (RefusesComparison meaning op x y)
    → Makes (λ t. t) r (compare_met op x y)
comparison_made op x y (Ok t) h =
    met_is x.operand y.operand _ h.meet ∙ ap typed (sym h.tree) ∙ typed_is t h.takes
comparison_made op x y (Err e) h = comparison_fails op x y e h

-- BETWEEN
bounds_refused : (o : BetweenOptions) (x low high : Lowered) (e : Refusal)
    → RefusesPair low.operand x.operand e → between_met o x low high ≡ refused e
bounds_refused o x low high e h = pair_refused low.operand x.operand _ e h

upper_refused : (o : BetweenOptions) (x low high : Lowered) (e : Refusal)
    → AreCompared low.operand x.operand → RefusesPair x.operand high.operand e
    → between_met o x low high ≡ refused e
upper_refused o x low high e h k =
    met_is low.operand x.operand _ h ∙ pair_refused x.operand high.operand _ e k

abbrev NoBounds : BetweenOptions → Lowered → Lowered → Lowered → Type 0
NoBounds o x low high =
    AreCompared low.operand x.operand × AreCompared x.operand high.operand
    × (tree_type meaning (bounded_tree o x low high) ≡ None)
    × ¬ (IsTyped meaning x × IsTyped meaning low × IsTyped meaning high)

bounds_fail : (o : BetweenOptions) (x low high : Lowered) (e : Refusal)
    → RefusesBounds meaning o x low high e → FailsBy (between_met o x low high) e
bounds_fail o x low high (refusal.Binding e) h =
    UnlessMemory-weaker (λ e. NoBounds o x low high) (λ e. between_met o x low high ≡ untyped)
    (λ e k. met_is low.operand x.operand _ k.0 ∙ met_is x.operand high.operand _ k.1
    ∙ typed_none (bounded_tree o x low high) k.2) e h
bounds_fail o x low high (refusal.NoCommonKind c d) h =
    elim h [
      | inl k ↦ bounds_refused o x low high (refusal.NoCommonKind c d) k
      | inr k ↦ upper_refused o x low high (refusal.NoCommonKind c d) k.0 k.1
    ]
bounds_fail o x low high (refusal.NotShipped c d) h =
    elim h [
      | inl k ↦ bounds_refused o x low high (refusal.NotShipped c d) k
      | inr k ↦ upper_refused o x low high (refusal.NotShipped c d) k.0 k.1
    ]
bounds_fail o x low high (refusal.NotOfKind k) h = elim h [ inl j ↦ absurd j | inr j ↦ absurd j.1 ]
bounds_fail o x low high (refusal.NotStored k) h = elim h [ inl j ↦ absurd j | inr j ↦ absurd j.1 ]

pub bounds_made : (o : BetweenOptions) (x low high : Lowered) (r : Result Tree Refusal)
    → MatchResult r (IsBounded meaning o x low high) (RefusesBounds meaning o x low high)
    → Makes (λ t. t) r (between_met o x low high)
bounds_made o x low high (Ok t) h =
    met_is low.operand x.operand _ h.lower ∙ met_is x.operand high.operand _ h.upper
    ∙ ap typed (sym h.tree) ∙ typed_is t h.takes
bounds_made o x low high (Err e) h = bounds_fail o x low high e h

-- sums, differences and products
some_result : (k : Option Operand) (b : Bool) (x y : Lowered) → is_some k ≡ true → b ≡ true
    → of_result b x y k untyped ≡ untyped
some_result None b x y h g = absurd (false≢true h)
some_result (Some a) b x y h g = ap (λ b. of_result b x y (Some a) untyped) g

not_computed : (k : Option Operand) (b : Bool) (x y : Lowered) (o : Outcome Tree)
    → is_some k ≡ true → b ≡ false
    → of_result b x y k o ≡ refused (refusal.NotShipped x.operand y.operand)
not_computed None b x y o h g = absurd (false≢true h)
not_computed (Some a) b x y o h g = ap (λ b. of_result b x y (Some a) o) g

abbrev NoResult : NumericOperator → Lowered → Lowered → Type 0
NoResult o x y =
    AreComputed o x.operand y.operand × (tree_type meaning (computed_tree o x y) ≡ None)
    × ¬ (IsTyped meaning x × IsTyped meaning y)

result_fails : (o : NumericOperator) (x y : Lowered) (e : Refusal)
    → RefusesResult meaning o x y e → FailsBy (compute_met o x y) e
result_fails o x y (refusal.Binding e) h =
    UnlessMemory-weaker (λ e. NoResult o x y) (λ e. compute_met o x y ≡ untyped)
    (λ e k. ap (of_result (are_computed o x.operand y.operand) x y
    (result_operand o x.operand y.operand)) (typed_none (computed_tree o x y) k.1)
    ∙ some_result (result_operand o x.operand y.operand) (are_computed o x.operand y.operand) x y
    k.0.0 k.0.1) e h
result_fails o x y (refusal.NoCommonKind c d) h =
    ap (λ k. of_result (are_computed o x.operand y.operand) x y k (typed (computed_tree o x y))) h.2
    ∙ ap (λ z. refused (refusal.NoCommonKind z y.operand)) (sym h.0)
    ∙ ap (λ z. refused (refusal.NoCommonKind c z)) (sym h.1)
result_fails o x y (refusal.NotShipped c d) h =
    not_computed (result_operand o x.operand y.operand) (are_computed o x.operand y.operand) x y
    (typed (computed_tree o x y)) h.2 h.3
    ∙ ap (λ z. refused (refusal.NotShipped z y.operand)) (sym h.0)
    ∙ ap (λ z. refused (refusal.NotShipped c z)) (sym h.1)
result_fails o x y (refusal.NotOfKind k) h = absurd h
result_fails o x y (refusal.NotStored k) h = absurd h

pub result_made : {R : Type 0} (view : R → Lowered) (o : NumericOperator) (x y : Lowered)
    (r : Result R Refusal)
    → MatchResult r (λ z. IsComputed meaning o x y (view z)) (RefusesResult meaning o x y)
    → Makes view r (compute_met o x y)
result_made view o x y (Ok z) h =
    ap (λ k. of_result (are_computed o x.operand y.operand) x y k (typed (computed_tree o x y)))
    h.kind
    ∙ ap (λ b. of_result b x y (Some (view z).operand) (typed (computed_tree o x y))) h.shipped
    ∙ ap (of_operand (view z).operand) (ap typed (sym h.tree) ∙ typed_is (view z).tree h.takes)
result_made view o x y (Err e) h = result_fails o x y e h

-- an operand with the digits of the common kind
pub aligned_is : (c : Operand) (x : Lowered) (t : Tree) → IsAligned meaning c x t
    → alignment.lengthened c x ≡ made t
aligned_is c x t h = ap typed (sym h.tree) ∙ typed_is t h.takes

pub aligned_none : (c : Operand) (x : Lowered) (e : VortexError)
    → UnlessMemory (RefusesAligning meaning c x) e
    → UnlessMemory (λ e. alignment.lengthened c x ≡ untyped) e
aligned_none c x e h =
    UnlessMemory-weaker (RefusesAligning meaning c x) (λ e. alignment.lengthened c x ≡ untyped)
    (λ e k. typed_none (tree_at_scale (scale_of c) x) k) e h
