-- Simple calls of exact arguments have exact ranges, and exact ranges give sharp verdicts.
use Rattle.std.specs.Prelude.{◌≡◌, ◌&&◌, ◌||◌, ℕ, suc, ◌<◌, List, [], ◌∷◌, Bool, true, false, not}
use Rattle.std.specs.Prelude.{Some, None, ⊤, length, nat_eq, refl}
use Rattle.std.specs.List.{list_any}
use Rattle.std.specs.Cmp.{unsigned_Decides}
use Rattle.std.proofs.Common.{arith, sym, ap, ◌∙◌, subst, cond}
use Rattle.vortex_types.specs.LogicalTypes.{LogicalType, bool_type, is_nullable}
use Rattle.vortex_types.specs.ScalarView.{ScalarView}
use Rattle.vortex_types.specs.TypeEquality.{alike_types}
use Rattle.vortex_types.specs.Values.{Value}
use Rattle.vortex_columns.specs.ColumnView.{ColumnView}
use Rattle.vortex_like.specs.declared.options.LikeOptions.{LikeOptions}
use Rattle.vortex_operators.specs.declared.between.BetweenOptions.{BetweenOptions}
use Rattle.vortex_operators.specs.declared.operators.Operator.{Operator}
use Rattle.vortex_operators.specs.declared.operators.Operator.TheVariants.{Eq, NotEq, Gt, Gte, Lt}
use Rattle.vortex_operators.specs.declared.operators.Operator.TheVariants.{Lte, And, Or, Add, Sub}
use Rattle.vortex_operators.specs.declared.operators.Operator.TheVariants.{Mul, Div}
use Rattle.vortex_operators.specs.declared.operators.CompareOperator.{CompareOperator}
use Rattle.vortex_operators.specs.declared.operators.CompareOperator.TheVariants as compare
use Rattle.vortex_operators.specs.OperatorValues.{comparison_type, comparison_value}
use Rattle.vortex_operators.specs.Operators.{is_arithmetic}
use Rattle.vortex_statistics.specs.StatisticsView.{StatisticsView}
use Rattle.vortex_interface.specs.Outcomes.{Outcome, gives, faults}
use Rattle.vortex_interface.specs.Meaning.{Meaning}
use Rattle.vortex_interface.specs.Shipped.{Binary, Not, NullTest, Between, Like}
use Rattle.vortex_interface.specs.Shipped.BinaryFunction.{operator_type, operator_means}
use Rattle.vortex_interface.specs.Shipped.BinaryFunction.{compared_type}
use Rattle.vortex_interface.specs.Shipped.NotFunction.{not_type}
use Rattle.vortex_interface.specs.Shipped.NullTestFunctions.{null_test_type}
use Rattle.vortex_interface.specs.Functions.{Function, ours}
use Rattle.vortex_interface.specs.Trees.{place, Tree, leaf, constant, call, Trees, no_trees, tree}
use Rattle.vortex_interface.specs.Eval.{tree_type, tree_types, eval}
use Rattle.vortex_interface.proofs.TypedCalls.{types_parts, one_type, two_types, typed_call}
use Rattle.vortex_interface.proofs.TypedCalls.{IsTypedCall}
use Rattle.vortex_ranges.specs.Ranges.{RangeView}
use Rattle.vortex_ranges.specs.Calls.{AdmitsOutcome}
use Rattle.vortex_ranges.specs.Truths.{negation, null_test}
use Rattle.vortex_ranges.specs.Comparing.{comparison}
use Rattle.vortex_ranges.specs.Prefixes.{ArePrefixRange}
use Rattle.vortex_ranges.specs.Reached.{inclusive}
use Rattle.vortex_ranges.specs.ShippedCalls.{operator_range, binary_range, not_range, null_test_range}
use Rattle.vortex_ranges.specs.ShippedCalls.{between_range}
use Rattle.vortex_ranges.specs.Described.{DescribeAll}
use Rattle.vortex_pruning.specs.Knowing.{with_faults, IsLeafRange}
use Rattle.vortex_pruning.specs.Exact.{IsExact, simple_range}
use Rattle.vortex_pruning.specs.Exact.{IsCallRange}
use Rattle.vortex_pruning.specs.SharpCalls.{IsSharpCall, AreBounds, IsPrefixTest, IsCapped}
use Rattle.vortex_pruning.specs.Sharpness.{reads, any_reads, AllReadOnce}
use Rattle.vortex_pruning.proofs.ExactTrees.{Reaches, not_exact, null_test_exact, and_exact}
use Rattle.vortex_pruning.proofs.ExactTrees.{or_exact, comparison_exact}
use Rattle.vortex_pruning.proofs.ExactTests.{between_call, like_call}

-- as many types as the arity says
not_none : (w : ℕ) (types : List LogicalType) → Some [] ≡ Some types
    → nat_eq (length types) (suc w) ≡ true → ⊥
not_none w types e h =
    let is : [] ≡ types = cc in
    let same : 0 ≡ suc w =
    (unsigned_Decides 0 (suc w)).0
    (subst (λ (l : List LogicalType). nat_eq (length l) (suc w) ≡ true) (sym is) h) in
    absurd (omega (arith, same))

not_two : (a b : LogicalType) (l : List LogicalType) → nat_eq (length (a ∷ b ∷ l)) 1 ≡ true → ⊥
not_two a b l h =
    let same : length (a ∷ b ∷ l) ≡ 1 = (unsigned_Decides (length (a ∷ b ∷ l)) 1).0 h in
    absurd (omega (arith, same))

not_three : (a b c : LogicalType) (l : List LogicalType)
    → nat_eq (length (a ∷ b ∷ c ∷ l)) 2 ≡ true → ⊥
not_three a b c l h =
    let same : length (a ∷ b ∷ c ∷ l) ≡ 2 = (unsigned_Decides (length (a ∷ b ∷ c ∷ l)) 2).0 h in
    absurd (omega (arith, same))

not_types : (a k : LogicalType) → not_type (a ∷ []) ≡ Some k
    → (b : Bool) × (a ≡ bool_type b) × (bool_type b ≡ k)
not_types (bool_type b) k e = (b, refl, cc)
not_types a k e = cc

compared_types : (t u k : LogicalType) → compared_type (t ∷ u ∷ []) ≡ Some k
    → (alike_types t u ≡ true) × (bool_type (is_nullable t || is_nullable u) ≡ k)
compared_types t u k e = by (alike_types t u) e
  where
    by : (b : Bool) → cond b (Some (comparison_type t u)) None ≡ Some k
        → (b ≡ true) × (bool_type (is_nullable t || is_nullable u) ≡ k)
    by true h = (refl, cc)
    by false h = cc

module _ {V O : Type 0} (m : Meaning V O) (n : ℕ) (ss : List StatisticsView)
    (base : List ColumnView) (d : DescribeAll n ss base) (some : 0 < n) where
  -- without faults the range is the same
  faultless_exact : (b : Bool) (t : Tree V O) (k : LogicalType) (r : RangeView) → b ≡ false
      → IsExact m n ss t k r → IsExact m n ss t k (with_faults b r)
  faultless_exact b t k r e x =
      record {
        measured = x.measured;
        faultless = (λ i. e i || x.faultless i);
        nulls = x.nulls;
        values = x.values;
        ends = λ h.
            let a = x.ends h in
            record {
              low = a.low;
              is_low = a.is_low;
              low_value = a.low_value;
              low_inside = a.low_inside;
              high = a.high;
            };
      }

  -- some value is reached, where no row may fault
  given_by : (t : Tree V O) (r : RangeView) → AdmitsOutcome r (eval m base t 0)
      → r.may_fault ≡ false → (v : Value) × Reaches m n ss base d some t v
  given_by t r a e = by (eval m base t 0) refl a
    where
      by : (o : Outcome) → eval m base t 0 ≡ o → AdmitsOutcome r o
          → (v : Value) × Reaches m n ss base d some t v
      by (gives v) q h = (v, record { columns = base; described = d; here = q })
      by (faults x) q h = let never : true ≡ false = sym h ∙ e in cc

  -- what is known of an argument
  abbrev pub IsReady : Tree V O → RangeView → Type 0
  IsReady t r =
      ((k : LogicalType) → tree_type m t ≡ Some k → IsExact m n ss t k r)
      × AdmitsOutcome r (eval m base t 0) × IsLeafRange n ss t r

  abbrev pub AllReady : Trees V O → List RangeView → Type 0
  AllReady no_trees [] = ⊤
  AllReady (tree t ts) (r ∷ rs) = IsReady t r × AllReady ts rs
  AllReady ts rs = ⊥

  module _ (t u : Tree V O) (apart : (p : ℕ) → (reads t p && reads u p) ≡ false)
      (v : Value) (given : Reaches m n ss base d some t v)
      (w : Value) (other : Reaches m n ss base d some u w) where
    abbrev Of : Operator → LogicalType → RangeView → Type 0
    Of op k r = IsExact m n ss (call (ours (Binary op)) (tree t (tree u no_trees))) k r

    compared : (op : Operator) (c : CompareOperator)
        → ((ts : List LogicalType) (x y : Value)
        → operator_means op ts (x ∷ y ∷ []) ≡ gives (comparison_value c x y))
        → (a b k : LogicalType) (r s : RangeView) → compared_type (a ∷ b ∷ []) ≡ Some k
        → IsExact m n ss t a r → IsExact m n ss u b s → Of op k (comparison c r s)
    compared op c means a b k r s e x y =
        let g = compared_types a b k e in
        subst (λ (l : LogicalType). Of op l (comparison c r s)) g.1
        (comparison_exact m n ss base d some t u apart v given w other op c means a b
        (is_nullable a || is_nullable b) r s g.0 x y)

    two_exact : (op : Operator) (a b k : LogicalType) (r s : RangeView)
        → operator_type op (a ∷ b ∷ []) ≡ Some k → not (is_arithmetic op) ≡ true
        → IsExact m n ss t a r → IsExact m n ss u b s → Of op k (operator_range op k r s)
    two_exact And (bool_type a) (bool_type b) k r s e h x y =
        let is : bool_type (a || b) ≡ k = cc in
        subst (λ (l : LogicalType). Of And l (operator_range And l r s)) is
        (and_exact m n ss base d some t u apart v given w other a b (a || b) r s x y)
    two_exact And a b k r s e h x y = cc
    two_exact Or (bool_type a) (bool_type b) k r s e h x y =
        let is : bool_type (a || b) ≡ k = cc in
        subst (λ (l : LogicalType). Of Or l (operator_range Or l r s)) is
        (or_exact m n ss base d some t u apart v given w other a b (a || b) r s x y)
    two_exact Or a b k r s e h x y = cc
    two_exact Eq a b k r s e h x y = compared Eq compare.Eq (λ ts p q. refl) a b k r s e x y
    two_exact NotEq a b k r s e h x y =
        compared NotEq compare.NotEq (λ ts p q. refl) a b k r s e x y
    two_exact Gt a b k r s e h x y = compared Gt compare.Gt (λ ts p q. refl) a b k r s e x y
    two_exact Gte a b k r s e h x y = compared Gte compare.Gte (λ ts p q. refl) a b k r s e x y
    two_exact Lt a b k r s e h x y = compared Lt compare.Lt (λ ts p q. refl) a b k r s e x y
    two_exact Lte a b k r s e h x y = compared Lte compare.Lte (λ ts p q. refl) a b k r s e x y
    two_exact Add a b k r s e h x y = cc
    two_exact Sub a b k r s e h x y = cc
    two_exact Mul a b k r s e h x y = cc
    two_exact Div a b k r s e h x y = cc

  neither : (a b : Bool) → a ≡ false → b ≡ false → (a || (b || false)) ≡ false
  neither a b e f = (λ i. e i || (f i || false))

  alone : (a : Bool) → a ≡ false → (a || false) ≡ false
  alone a e = (λ i. e i || false)

  apart_of : (t u : Tree V O) → ((p : ℕ) → (reads t p && any_reads (tree u no_trees) p) ≡ false)
      → (p : ℕ) → (reads t p && reads u p) ≡ false
  apart_of t u h p = by (reads t p) (reads u p) (h p)
    where
      by : (a b : Bool) → (a && (b || false)) ≡ false → (a && b) ≡ false
      by true true e = cc
      by true false e = refl
      by false b e = refl

  binary_exact : (op : Operator) (ts : Trees V O) (k : LogicalType)
      → IsTypedCall m (ours (Binary op)) ts k → not (is_arithmetic op) ≡ true
      → AllReadOnce n ss ts → (rs : List RangeView) → AllReady ts rs
      → IsExact m n ss (call (ours (Binary op)) ts) k
      (with_faults (list_any (λ (s : RangeView). s.may_fault) rs) (binary_range op k rs))
  binary_exact op no_trees k c h once rs ready =
      absurd (not_none 1 c.types c.children c.fitting)
  binary_exact op (tree t no_trees) k c h once rs ready =
      let a = one_type (tree_type m t) c.types c.children in
      let never : false ≡ true =
      subst (λ (l : List LogicalType). nat_eq (length l) 2 ≡ true) (sym a.2) c.fitting in
      cc
  binary_exact op (tree t (tree u no_trees)) k c h once (r ∷ s ∷ []) ready =
      let a = two_types (tree_type m t) (tree_type m u) c.types c.children in
      let x = ready.0.0 a.0 a.2 in
      let y = ready.1.0.0 a.1 a.3 in
      let v = given_by t r ready.0.1 x.faultless in
      let w = given_by u s ready.1.0.1 y.faultless in
      let returns : operator_type op (a.0 ∷ a.1 ∷ []) ≡ Some k =
      subst (λ (l : List LogicalType). operator_type op l ≡ Some k) (sym a.4) c.returns in
      faultless_exact (r.may_fault || (s.may_fault || false))
      (call (ours (Binary op)) (tree t (tree u no_trees))) k (operator_range op k r s)
      (neither r.may_fault s.may_fault x.faultless y.faultless)
      (two_exact t u (apart_of t u once.2) v.0 v.1 w.0 w.1 op a.0 a.1 k r s returns h x y)
  binary_exact op (tree t (tree u no_trees)) k c h once [] ready = absurd ready
  binary_exact op (tree t (tree u no_trees)) k c h once (r ∷ []) ready = absurd ready.1
  binary_exact op (tree t (tree u no_trees)) k c h once (r ∷ s ∷ q ∷ rs) ready =
      absurd ready.1.1
  binary_exact op (tree t (tree u (tree q ts))) k c h once rs ready =
      let a = types_parts (tree_type m t) (tree_types m (tree u (tree q ts))) c.types c.children in
      let b = types_parts (tree_type m u) (tree_types m (tree q ts)) a.1 a.3 in
      let e = types_parts (tree_type m q) (tree_types m ts) b.1 b.3 in
      absurd
      (not_three a.0 b.0 e.0 e.1
      (subst (λ (l : List LogicalType). nat_eq (length l) 2 ≡ true)
      (sym
      (ap (λ (l : List LogicalType). a.0 ∷ (b.0 ∷ l)) e.4
      ∙ ap (λ (l : List LogicalType). a.0 ∷ l) b.4 ∙ a.4))
      c.fitting))

  -- an only argument
  not_two_children : {k : LogicalType} (f : Function V O) (t u : Tree V O) (ts : Trees V O)
      → (c : IsTypedCall m f (tree t (tree u ts)) k) → nat_eq (length c.types) 1 ≡ true → ⊥
  not_two_children f t u ts c h =
      let a = types_parts (tree_type m t) (tree_types m (tree u ts)) c.types c.children in
      let b = types_parts (tree_type m u) (tree_types m ts) a.1 a.3 in
      not_two a.0 b.0 b.1
      (subst (λ (l : List LogicalType). nat_eq (length l) 1 ≡ true)
      (sym (ap (λ (l : List LogicalType). a.0 ∷ l) b.4 ∙ a.4)) h)

  negation_exact : (ts : Trees V O) (k : LogicalType) → IsTypedCall m (ours Not) ts k
      → (rs : List RangeView) → AllReady ts rs
      → IsExact m n ss (call (ours Not) ts) k
      (with_faults (list_any (λ (s : RangeView). s.may_fault) rs) (not_range rs))
  negation_exact no_trees k c rs ready = absurd (not_none 0 c.types c.children c.fitting)
  negation_exact (tree t no_trees) k c (r ∷ []) ready =
      let a = one_type (tree_type m t) c.types c.children in
      let x = ready.0.0 a.0 a.1 in
      let b = not_types a.0 k
      (subst (λ (l : List LogicalType). not_type l ≡ Some k) (sym a.2) c.returns) in
      faultless_exact (r.may_fault || false) (call (ours Not) (tree t no_trees)) k (negation r)
      (alone r.may_fault x.faultless)
      (subst (λ (l : LogicalType). IsExact m n ss (call (ours Not) (tree t no_trees)) l
      (negation r)) b.2
      (not_exact m n ss base d some t b.0 b.0 r
      (subst (λ (l : LogicalType). IsExact m n ss t l r) b.1 x)))
  negation_exact (tree t no_trees) k c [] ready = absurd ready
  negation_exact (tree t no_trees) k c (r ∷ s ∷ rs) ready = absurd ready.1
  negation_exact (tree t (tree u ts)) k c rs ready =
      absurd (not_two_children (ours Not) t u ts c c.fitting)

  test_exact : (negated : Bool) (ts : Trees V O) (k : LogicalType)
      → IsTypedCall m (ours (NullTest negated)) ts k → (rs : List RangeView) → AllReady ts rs
      → IsExact m n ss (call (ours (NullTest negated)) ts) k
      (with_faults (list_any (λ (s : RangeView). s.may_fault) rs) (null_test_range negated rs))
  test_exact negated no_trees k c rs ready = absurd (not_none 0 c.types c.children c.fitting)
  test_exact negated (tree t no_trees) k c (r ∷ []) ready =
      let a = one_type (tree_type m t) c.types c.children in
      let x = ready.0.0 a.0 a.1 in
      let returns : null_test_type (a.0 ∷ []) ≡ Some k =
      subst (λ (l : List LogicalType). null_test_type l ≡ Some k) (sym a.2) c.returns in
      let is : bool_type false ≡ k = cc in
      faultless_exact (r.may_fault || false) (call (ours (NullTest negated)) (tree t no_trees)) k
      (null_test negated r) (alone r.may_fault x.faultless)
      (subst (λ (l : LogicalType).
      IsExact m n ss (call (ours (NullTest negated)) (tree t no_trees)) l (null_test negated r)) is
      (null_test_exact m n ss base d some negated t a.0 r false x))
  test_exact negated (tree t no_trees) k c [] ready = absurd ready
  test_exact negated (tree t no_trees) k c (r ∷ s ∷ rs) ready = absurd ready.1
  test_exact negated (tree t (tree u ts)) k c rs ready =
      absurd (not_two_children (ours (NullTest negated)) t u ts c c.fitting)

  abbrev CallExact : Function V O → Trees V O → LogicalType → List RangeView → RangeView → Type 0
  CallExact f ts k rs r =
      IsExact m n ss (call f ts) k
      (with_faults (list_any (λ (s : RangeView). s.may_fault) rs) r)

  -- a simple call has the range that its arguments give
  simply : (f : Function V O) (ts : Trees V O) (k : LogicalType) (rs : List RangeView)
      (r : RangeView) → r ≡ simple_range f k rs → CallExact f ts k rs (simple_range f k rs)
      → CallExact f ts k rs r
  simply f ts k rs r is h = subst (λ (q : RangeView). CallExact f ts k rs q) (sym is) h

  between_ready : (options : BetweenOptions) (t : Tree V O) (lower upper : ScalarView)
      (k : LogicalType)
      → IsTypedCall m (ours (Between options))
      (tree t (tree (constant lower) (tree (constant upper) no_trees))) k
      → (options ≡ inclusive) × AreBounds lower.value upper.value → (rs : List RangeView)
      → AllReady (tree t (tree (constant lower) (tree (constant upper) no_trees))) rs
      → (r : RangeView) → r ≡ between_range options rs
      → CallExact (ours (Between options))
      (tree t (tree (constant lower) (tree (constant upper) no_trees))) k rs r
  between_ready options t lower upper k c h (r ∷ p ∷ q ∷ []) ready o is =
      let a =
      types_parts (tree_type m t)
      (tree_types m (tree (constant lower) (tree (constant upper) no_trees))) c.types c.children in
      let x = (ready.0.0 a.0 a.2).faultless in
      let y = (ready.1.0.0 lower.dtype refl).faultless in
      let z = (ready.1.1.0.0 upper.dtype refl).faultless in
      faultless_exact (r.may_fault || (p.may_fault || (q.may_fault || false)))
      (call (ours (Between options)) (tree t (tree (constant lower) (tree (constant upper) no_trees))))
      k o (λ i. x i || (y i || (z i || false)))
      (between_call m n ss base d some options t lower upper k r p q o c h.0 h.1 ready.0.0
      ready.1.0.0 ready.1.0.2 ready.1.1.0.0 ready.1.1.0.2 is)
  between_ready options t lower upper k c h [] ready o is = absurd ready
  between_ready options t lower upper k c h (r ∷ []) ready o is = absurd ready.1
  between_ready options t lower upper k c h (r ∷ p ∷ []) ready o is = absurd ready.1.1
  between_ready options t lower upper k c h (r ∷ p ∷ q ∷ s ∷ rs) ready o is = absurd ready.1.1.1

  like_ready : (options : LikeOptions) (p : ℕ) (name : List ℕ) (t : LogicalType) (s : ScalarView)
      (k : LogicalType)
      → IsTypedCall m (ours (Like options)) (tree (leaf (place p name t)) (tree (constant s) no_trees)) k
      → IsPrefixTest options s.value × IsCapped ss p → (rs : List RangeView)
      → AllReady (tree (leaf (place p name t)) (tree (constant s) no_trees)) rs → (r : RangeView)
      → ArePrefixRange options rs r
      → CallExact (ours (Like options)) (tree (leaf (place p name t)) (tree (constant s) no_trees)) k rs r
  like_ready options p name t s k c h (r ∷ q ∷ []) ready o is =
      let x = (ready.0.0 t refl).faultless in
      let y = (ready.1.0.0 s.dtype refl).faultless in
      faultless_exact (r.may_fault || (q.may_fault || false))
      (call (ours (Like options)) (tree (leaf (place p name t)) (tree (constant s) no_trees))) k o
      (neither r.may_fault q.may_fault x y)
      (like_call m n ss base d some options p name t s k r q o c h.0 h.1 ready.0.0 ready.0.2
      ready.1.0.0 ready.1.0.2 is)
  like_ready options p name t s k c h [] ready o is = absurd ready
  like_ready options p name t s k c h (r ∷ []) ready o is = absurd ready.1
  like_ready options p name t s k c h (r ∷ q ∷ u ∷ rs) ready o is = absurd ready.1.1

  by_function : (f : Function V O) (ts : Trees V O) (k : LogicalType) → IsTypedCall m f ts k
      → IsSharpCall ss f ts → AllReadOnce n ss ts → (rs : List RangeView) → AllReady ts rs
      → (r : RangeView) → IsCallRange f k rs r → CallExact f ts k rs r
  by_function (ours (Binary op)) ts k c h once rs ready r is =
      simply (ours (Binary op)) ts k rs r (is h) (binary_exact op ts k c h once rs ready)
  by_function (ours Not) ts k c h once rs ready r is =
      simply (ours Not) ts k rs r (is h) (negation_exact ts k c rs ready)
  by_function (ours (NullTest negated)) ts k c h once rs ready r is =
      simply (ours (NullTest negated)) ts k rs r (is h) (test_exact negated ts k c rs ready)
  by_function (ours (Between options))
      (tree t (tree (constant lower) (tree (constant upper) no_trees))) k c h once rs ready r is =
      between_ready options t lower upper k c h rs ready r is
  by_function (ours (Like options)) (tree (leaf (place p name t)) (tree (constant s) no_trees)) k c h
      once rs ready r is =
      like_ready options p name t s k c h rs ready r is
  by_function f ts k c h once rs ready r is = cc

  pub call_exact : (f : Function V O) (ts : Trees V O) (k : LogicalType)
      → tree_type m (call f ts) ≡ Some k → IsSharpCall ss f ts → AllReadOnce n ss ts
      → (rs : List RangeView) → AllReady ts rs → (r : RangeView) → IsCallRange f k rs r
      → IsExact m n ss (call f ts) k
      (with_faults (list_any (λ (s : RangeView). s.may_fault) rs) r)
  call_exact f ts k typed h once rs ready r is =
      by_function f ts k (typed_call m f ts k typed) h once rs ready r is
