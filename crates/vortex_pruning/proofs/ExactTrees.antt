-- Exact ranges of simple calls.
use Rattle.std.specs.Prelude.{◌≡◌, ◌&&◌, ◌||◌, ℕ, ◌<◌, List, [], ◌∷◌, Bool, true, false}
use Rattle.std.specs.Prelude.{not, Option, Some, None, MatchOption, refl}
use Rattle.std.specs.declared.cmp.Ordering.{Ordering}
use Rattle.std.proofs.Common.{sym, ap, ◌∙◌, subst, inl, inr}
use Rattle.vortex_types.specs.LogicalTypes.{LogicalType, bool_type}
use Rattle.vortex_types.specs.TypeEquality.{alike_types, type_eq-decides}
use Rattle.vortex_types.specs.LogicalTypes.{without_nullability}
use Rattle.vortex_types.specs.Values.{Value, null, truth, number, text, bytes, list, is_null}
use Rattle.vortex_types.specs.Values.{truth_of, truth_or_null}
use Rattle.vortex_types.specs.Order.{compare_values}
use Rattle.vortex_columns.specs.ColumnView.{ColumnView, is_bytes_like}
use Rattle.vortex_operators.specs.declared.operators.Operator.{Operator}
use Rattle.vortex_operators.specs.declared.operators.Operator.TheVariants.{And, Or}
use Rattle.vortex_operators.specs.declared.operators.CompareOperator.{CompareOperator}
use Rattle.vortex_operators.specs.Kleene.{kleene_and, kleene_or}
use Rattle.vortex_operators.specs.OperatorValues.{holds, comparison_value, boolean_value}
use Rattle.vortex_statistics.specs.StatisticsView.{StatisticsView}
use Rattle.vortex_interface.specs.Outcomes.{Outcome, gives}
use Rattle.vortex_interface.specs.Meaning.{Meaning}
use Rattle.vortex_interface.specs.Shipped.{Binary, Not, NullTest}
use Rattle.vortex_interface.specs.Shipped.BinaryFunction.{operator_means, null_compared}
use Rattle.vortex_interface.specs.Functions.{Function, ours, function_means}
use Rattle.vortex_interface.specs.Trees.{Tree, call, no_trees, tree}
use Rattle.vortex_interface.specs.Eval.{eval}
use Rattle.vortex_interface.proofs.TypedCalls.{eval_one, eval_two}
use Rattle.vortex_ranges.specs.Ranges.{RangeView}
use Rattle.vortex_ranges.specs.Truths.{reach_past_truths, may_be_unknown, may_be_true}
use Rattle.vortex_ranges.specs.Truths.{may_be_false, negation, unknown_of_both, conjunction}
use Rattle.vortex_ranges.specs.Truths.{disjunction, null_test}
use Rattle.vortex_ranges.specs.Comparing.{may_pass, comparison}
use Rattle.vortex_ranges.specs.Described.{DescribeAll}
use Rattle.vortex_ranges.proofs.Tests.{first, second, refuted}
use Rattle.vortex_pruning.specs.Exact.{IsReached, Gives, IsValueOf, HasEnds, IsExact}
use Rattle.vortex_pruning.specs.Sharpness.{reads}
use Rattle.vortex_pruning.proofs.MixedColumns.{mixed, mixed_described, from_first, from_second, agree}
use Rattle.vortex_pruning.proofs.OrderedPairs.{same_values, pair, some_order, one_of, low_inside}
use Rattle.vortex_pruning.proofs.ExactLeaves.{truths_exact}

-- ends that are truth values reach no further
no_further : (b : Bool) (low : Value) (high : Option Value) → IsValueOf (bool_type b) low
    → MatchOption high (is_bytes_like (bool_type b) ≡ true) (IsValueOf (bool_type b))
    → reach_past_truths (Some low) high ≡ false
no_further b low None h g = cc
no_further b (truth true) (Some (truth true)) h g = refl
no_further b (truth true) (Some (truth false)) h g = refl
no_further b (truth false) (Some (truth true)) h g = refl
no_further b (truth false) (Some (truth false)) h g = refl
no_further b null (Some w) h g = let never : true ≡ false = h.valid in cc
no_further b (number z) (Some w) h g = absurd h.typed
no_further b (text bs) (Some w) h g = absurd h.typed
no_further b (bytes bs) (Some w) h g = absurd h.typed
no_further b (list vs) (Some w) h g = absurd h.typed
no_further b low (Some null) h g = let never : true ≡ false = g.valid in cc
no_further b low (Some (number z)) h g = absurd g.typed
no_further b low (Some (text bs)) h g = absurd g.typed
no_further b low (Some (bytes bs)) h g = absurd g.typed
no_further b low (Some (list vs)) h g = absurd g.typed

only_null : (b : Bool) (r : RangeView) → (r.may_be_value ≡ true → HasEnds (bool_type b) r)
    → may_be_unknown r ≡ true → r.may_be_null ≡ true
only_null b r ends e =
    elim (one_of r.may_be_null (r.may_be_value && reach_past_truths r.low r.high) e) [
      | inl h ↦ h
      | inr h ↦
          let there = ends (first r.may_be_value (reach_past_truths r.low r.high) h) in
          let past : reach_past_truths r.low r.high ≡ true =
          second r.may_be_value (reach_past_truths r.low r.high) h in
          let not_past : reach_past_truths r.low r.high ≡ false =
          subst (λ (o : Option Value). reach_past_truths o r.high ≡ false) (sym there.is_low)
          (no_further b there.low r.high there.low_value there.high) in
          let never : true ≡ false = sym past ∙ not_past in
          cc
    ]

and_false : (v : Value) → boolean_value And v (truth false) ≡ truth false
and_false v = ap truth_or_null (by (truth_of v))
  where
    by : (o : Option Bool) → kleene_and o (Some false) ≡ Some false
    by None = refl
    by (Some true) = refl
    by (Some false) = refl

or_true : (v : Value) → boolean_value Or v (truth true) ≡ truth true
or_true v = ap truth_or_null (by (truth_of v))
  where
    by : (o : Option Bool) → kleene_or o (Some true) ≡ Some true
    by None = refl
    by (Some true) = refl
    by (Some false) = refl

pub valid_comparison : (op : CompareOperator) (v w : Value) → is_null v ≡ false → is_null w ≡ false
    → comparison_value op v w ≡ truth (holds op (compare_values v w))
valid_comparison op null w d e = cc
valid_comparison op (truth a) null d e = cc
valid_comparison op (number a) null d e = cc
valid_comparison op (text a) null d e = cc
valid_comparison op (bytes a) null d e = cc
valid_comparison op (list a) null d e = cc
valid_comparison op v w d e = refl

pub alike_back : (t u : LogicalType) → alike_types t u ≡ true → alike_types u t ≡ true
alike_back t u e =
    (type_eq-decides (without_nullability u) (without_nullability t)).1
    (sym ((type_eq-decides (without_nullability t) (without_nullability u)).0 e))

module _ {V O : Type 0} (m : Meaning V O) (n : ℕ) (ss : List StatisticsView)
    (base : List ColumnView) (d : DescribeAll n ss base) (some : 0 < n) where
  abbrev pub Reaches : Tree V O → Value → Type 0
  Reaches t v = IsReached m n ss t (Gives v)

  abbrev Exact : Tree V O → LogicalType → RangeView → Type 0
  Exact t k r = IsExact m n ss t k r

  module _ (t : Tree V O) (b : Bool) (r : RangeView) (x : Exact t (bool_type b) r) where
    pub unknown_reached : may_be_unknown r ≡ true → Reaches t null
    unknown_reached e = x.nulls (only_null b r x.ends e)

    pub false_reached : may_be_false r ≡ true → Reaches t (truth false)
    false_reached e = x.values (truth false) (record { typed = tt; valid = refl }) e

    pub true_reached : may_be_true r ≡ true → Reaches t (truth true)
    true_reached e = x.values (truth true) (record { typed = tt; valid = refl }) e

  -- one argument
  module _ (f : Function V O) (t : Tree V O) where
    after_one : (v : Value) (o : Outcome) → Reaches t v
        → ((ts : List LogicalType) → function_means m f ts (v ∷ []) ≡ o)
        → IsReached m n ss (call f (tree t no_trees)) (λ p. p ≡ o)
    after_one v o h g =
        record {
          columns = h.columns;
          described = h.described;
          here = eval_one m h.columns 0 f t v h.here ∙ g _;
        }

  pub not_exact : (t : Tree V O) (b c : Bool) (r : RangeView) → Exact t (bool_type b) r
      → Exact (call (ours Not) (tree t no_trees)) (bool_type c) (negation r)
  not_exact t b c r x =
      truths_exact m n ss base d some (call (ours Not) (tree t no_trees)) c (may_be_unknown r) (may_be_true r)
      (may_be_false r)
      (λ e. after_one (ours Not) t null (gives null) (unknown_reached t b r x e) (λ ts. refl))
      (λ e.
      after_one (ours Not) t (truth true) (gives (truth false)) (true_reached t b r x e)
      (λ ts. refl))
      (λ e.
      after_one (ours Not) t (truth false) (gives (truth true)) (false_reached t b r x e)
      (λ ts. refl))

  some_value : (t : Tree V O) (k : LogicalType) (r : RangeView) → Exact t k r
      → r.may_be_value ≡ true → (v : Value) × (is_null v ≡ false) × Reaches t v
  some_value t k r x e =
      let ends = x.ends e in (
        ends.low,
        ends.low_value.valid,
        x.values ends.low ends.low_value (low_inside k r e ends),
      )

  pub null_test_exact : (negated : Bool) (t : Tree V O) (k : LogicalType) (r : RangeView) (c : Bool)
      → Exact t k r
      → Exact (call (ours (NullTest negated)) (tree t no_trees)) (bool_type c)
      (null_test negated r)
  null_test_exact false t k r c x =
      let f = ours (NullTest false) in
      truths_exact m n ss base d some (call f (tree t no_trees)) c false r.may_be_value r.may_be_null
      (λ e. cc)
      (λ e.
      let v = some_value t k r x e in
      after_one f t v.0 (gives (truth false)) v.2 (λ ts. ap (λ b. gives (truth b)) v.1))
      (λ e. after_one f t null (gives (truth true)) (x.nulls e) (λ ts. refl))
  null_test_exact true t k r c x =
      let f = ours (NullTest true) in
      truths_exact m n ss base d some (call f (tree t no_trees)) c false r.may_be_null r.may_be_value
      (λ e. cc)
      (λ e. after_one f t null (gives (truth false)) (x.nulls e) (λ ts. refl))
      (λ e.
      let v = some_value t k r x e in
      after_one f t v.0 (gives (truth true)) v.2 (λ ts. ap (λ b. gives (truth (not b))) v.1))

  -- two arguments, which read no column both
  module _ (op : Operator) (t u : Tree V O) (apart : (p : ℕ) → (reads t p && reads u p) ≡ false)
    where
      abbrev whole : Tree V O
      whole = call (ours (Binary op)) (tree t (tree u no_trees))

      not_read : (p : ℕ) → reads u p ≡ true → reads t p ≡ false
      not_read p e = by (reads t p) (reads u p) e (apart p)
        where
          by : (a b : Bool) → b ≡ true → (a && b) ≡ false → a ≡ false
          by true b q h = let never : true ≡ false = sym q ∙ h in cc
          by false b q h = refl

      pub after_two : (v w : Value) (o : Outcome) → Reaches t v → Reaches u w
          → ((ts : List LogicalType) → operator_means op ts (v ∷ w ∷ []) ≡ o)
          → IsReached m n ss whole (λ p. p ≡ o)
      after_two v w o h g means =
          let cs = mixed (reads t) h.columns g.columns in
          let one : eval m h.columns t 0 ≡ eval m cs t 0 =
          agree m h.columns cs 0 t
          (λ p e.
          from_first n ss (reads t) h.columns g.columns h.described g.described p e) in
          let two : eval m g.columns u 0 ≡ eval m cs u 0 =
          agree m g.columns cs 0 u
          (λ p e.
          from_second n ss (reads t) h.columns g.columns h.described g.described p
          (not_read p e)) in
          record {
            columns = cs;
            described = mixed_described n ss (reads t) h.columns g.columns h.described g.described;
            here = eval_two m cs 0 (ours (Binary op)) t u v w (sym one ∙ h.here) (sym two ∙ g.here)
                ∙ means _;
          }

  module _ (t u : Tree V O) (apart : (p : ℕ) → (reads t p && reads u p) ≡ false)
      (v : Value) (given : Reaches t v) (w : Value) (other : Reaches u w) where
    pub and_exact : (a b c : Bool) (r s : RangeView) → Exact t (bool_type a) r
        → Exact u (bool_type b) s
        → Exact (call (ours (Binary And)) (tree t (tree u no_trees))) (bool_type c)
        (conjunction r s)
    and_exact a b c r s x y =
        truths_exact m n ss base d some (call (ours (Binary And)) (tree t (tree u no_trees))) c
        (unknown_of_both (may_be_unknown r) (may_be_true r) (may_be_unknown s) (may_be_true s))
        (may_be_false r || may_be_false s) (may_be_true r && may_be_true s) unknown untrue
        (λ e.
        after_two And t u apart (truth true) (truth true) (gives (truth true))
        (true_reached t a r x (first (may_be_true r) (may_be_true s) e))
        (true_reached u b s y (second (may_be_true r) (may_be_true s) e)) (λ ts. refl))
      where
        unknown : unknown_of_both (may_be_unknown r) (may_be_true r) (may_be_unknown s)
            (may_be_true s) ≡ true
            → Reaches (call (ours (Binary And)) (tree t (tree u no_trees))) null
        unknown e =
            elim (one_of (may_be_unknown r && (may_be_unknown s || may_be_true s))
            (may_be_true r && may_be_unknown s) e) [
              | inr h ↦ after_two And t u apart (truth true) null (gives null)
                  (true_reached t a r x (first (may_be_true r) (may_be_unknown s) h))
                  (unknown_reached u b s y (second (may_be_true r) (may_be_unknown s) h))
                  (λ ts. refl)
              | inl h ↦
                  let one = unknown_reached t a r x
                  (first (may_be_unknown r) (may_be_unknown s || may_be_true s) h) in
                  elim (one_of (may_be_unknown s) (may_be_true s)
                  (second (may_be_unknown r) (may_be_unknown s || may_be_true s) h)) [
                    | inl g ↦ after_two And t u apart null null (gives null) one
                        (unknown_reached u b s y g) (λ ts. refl)
                    | inr g ↦ after_two And t u apart null (truth true) (gives null) one
                        (true_reached u b s y g) (λ ts. refl)
                  ]
            ]

        untrue : (may_be_false r || may_be_false s) ≡ true
            → Reaches (call (ours (Binary And)) (tree t (tree u no_trees))) (truth false)
        untrue e =
            elim (one_of (may_be_false r) (may_be_false s) e) [
              | inl h ↦ after_two And t u apart (truth false) w (gives (truth false))
                  (false_reached t a r x h) other (λ ts. refl)
              | inr h ↦ after_two And t u apart v (truth false) (gives (truth false)) given
                  (false_reached u b s y h) (λ ts. ap gives (and_false v))
            ]

    pub or_exact : (a b c : Bool) (r s : RangeView) → Exact t (bool_type a) r
        → Exact u (bool_type b) s
        → Exact (call (ours (Binary Or)) (tree t (tree u no_trees))) (bool_type c)
        (disjunction r s)
    or_exact a b c r s x y =
        truths_exact m n ss base d some (call (ours (Binary Or)) (tree t (tree u no_trees))) c
        (unknown_of_both (may_be_unknown r) (may_be_false r) (may_be_unknown s) (may_be_false s))
        (may_be_false r && may_be_false s) (may_be_true r || may_be_true s) unknown
        (λ e.
        after_two Or t u apart (truth false) (truth false) (gives (truth false))
        (false_reached t a r x (first (may_be_false r) (may_be_false s) e))
        (false_reached u b s y (second (may_be_false r) (may_be_false s) e)) (λ ts. refl))
        sure
      where
        unknown : unknown_of_both (may_be_unknown r) (may_be_false r) (may_be_unknown s)
            (may_be_false s) ≡ true
            → Reaches (call (ours (Binary Or)) (tree t (tree u no_trees))) null
        unknown e =
            elim (one_of (may_be_unknown r && (may_be_unknown s || may_be_false s))
            (may_be_false r && may_be_unknown s) e) [
              | inr h ↦ after_two Or t u apart (truth false) null (gives null)
                  (false_reached t a r x (first (may_be_false r) (may_be_unknown s) h))
                  (unknown_reached u b s y (second (may_be_false r) (may_be_unknown s) h))
                  (λ ts. refl)
              | inl h ↦
                  let one = unknown_reached t a r x
                  (first (may_be_unknown r) (may_be_unknown s || may_be_false s) h) in
                  elim (one_of (may_be_unknown s) (may_be_false s)
                  (second (may_be_unknown r) (may_be_unknown s || may_be_false s) h)) [
                    | inl g ↦ after_two Or t u apart null null (gives null) one
                        (unknown_reached u b s y g) (λ ts. refl)
                    | inr g ↦ after_two Or t u apart null (truth false) (gives null) one
                        (false_reached u b s y g) (λ ts. refl)
                  ]
            ]

        sure : (may_be_true r || may_be_true s) ≡ true
            → Reaches (call (ours (Binary Or)) (tree t (tree u no_trees))) (truth true)
        sure e =
            elim (one_of (may_be_true r) (may_be_true s) e) [
              | inl h ↦ after_two Or t u apart (truth true) w (gives (truth true))
                  (true_reached t a r x h) other (λ ts. refl)
              | inr h ↦ after_two Or t u apart v (truth true) (gives (truth true)) given
                  (true_reached u b s y h) (λ ts. ap gives (or_true v))
            ]

    module _ (op : Operator) (c : CompareOperator)
        (means : (ts : List LogicalType) (x y : Value)
        → operator_means op ts (x ∷ y ∷ []) ≡ gives (comparison_value c x y)) where
      pub comparison_exact : (k l : LogicalType) (b : Bool) (r s : RangeView)
          → alike_types k l ≡ true → Exact t k r → Exact u l s
          → Exact (call (ours (Binary op)) (tree t (tree u no_trees))) (bool_type b)
          (comparison c r s)
      comparison_exact k l b r s alike x y =
          truths_exact m n ss base d some (call (ours (Binary op)) (tree t (tree u no_trees))) b
          (r.may_be_null || s.may_be_null) (may_pass (λ o. not (holds c o)) r s)
          (may_pass (holds c) r s) unknown
          (held (λ o. not (holds c o)) false (λ o h. refuted (holds c o) h))
          (held (holds c) true (λ o h. h))
        where
          unknown : (r.may_be_null || s.may_be_null) ≡ true
              → Reaches (call (ours (Binary op)) (tree t (tree u no_trees))) null
          unknown e =
              elim (one_of r.may_be_null s.may_be_null e) [
                | inl h ↦ after_two op t u apart null w (gives null) (x.nulls h) other
                    (λ ts. means ts null w)
                | inr h ↦ after_two op t u apart v null (gives null) given (y.nulls h)
                    (λ ts. means ts v null ∙ ap gives (null_compared c v))
              ]

          held : (test : Ordering → Bool) (a : Bool)
              → ((o : Ordering) → test o ≡ true → holds c o ≡ a)
              → may_pass test r s ≡ true
              → Reaches (call (ours (Binary op)) (tree t (tree u no_trees))) (truth a)
          held test a says e =
              let o = some_order test r s e in
              let there =
              first (r.may_be_value && s.may_be_value) _ e in
              let left = first r.may_be_value s.may_be_value there in
              let right = second r.may_be_value s.may_be_value there in
              let p =
              pair k l r s left right (x.ends left) (y.ends right)
              (λ z h. same_values k l z x.measured alike h)
              (λ z h. same_values l k z y.measured (alike_back k l alike) h) o.0 o.2 in
              after_two op t u apart p.left p.right (gives (truth a))
              (x.values p.left p.left_there p.left_inside)
              (y.values p.right p.right_there p.right_inside)
              (λ ts.
              means ts p.left p.right
              ∙ ap gives
              (valid_comparison c p.left p.right p.left_there.valid p.right_there.valid
              ∙ ap (λ (q : Ordering). truth (holds c q)) p.order
              ∙ ap truth (says o.0 o.1)))
