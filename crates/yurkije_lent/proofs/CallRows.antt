-- From the rows of operands to those of a call.
use Rattle.std.proofs.Common.{◌≡◌, ℕ, zero, suc, ◌<◌, Bool, true, false, List, [], ◌∷◌, ◌++◌}
use Rattle.std.proofs.Common.{length, map, take, get_or, Some, None, Ok, refl, sym, ap, subst}
use Rattle.std.proofs.Common.{◌∙◌, arith}
use Rattle.std.specs.Prelude.{slice_get, ◌||◌, IsSome}
use Rattle.vortex_types.specs.LogicalTypes.{LogicalType}
use Rattle.vortex_types.specs.TypeEquality.{alike_types}
use Rattle.vortex_columns.specs.ColumnView.{ColumnView}
use Rattle.vortex_operators.specs.declared.operators.CompareOperator.{CompareOperator}
use Rattle.vortex_operators.specs.Arithmetic.{integer_of_both}
use Rattle.vortex_kernels.specs.Comparison.{HasComparisonRows, is_settled}
use Rattle.vortex_errors.specs.declared.error.NumericOperator.{NumericOperator}
use Rattle.vortex_operators.specs.declared.between.BetweenOptions.{BetweenOptions}
use Rattle.vortex_kernels.specs.Between.{HasBetweenRows}
use Rattle.vortex_kernels.specs.NullTests.{HasTests}
use Rattle.vortex_kernels.specs.Numeric.{AnswersNumeric}
use Rattle.vortex_interface.specs.Args.{AreOfLength}
use Rattle.vortex_interface.specs.Outcomes.{HasCallRows, types_in}
use Rattle.vortex_interface.specs.Meaning.{Meaning, fits}
use Rattle.vortex_interface.specs.Functions.{Function, ours, function_arity, function_type}
use Rattle.vortex_interface.specs.Functions.{function_means}
use Rattle.vortex_interface.specs.Shipped.{Between, NullTest}
use Rattle.vortex_interface.specs.Shipped.NullTestFunctions.{null_test_value}
use Rattle.vortex_interface.specs.Trees.{Tree, Trees, leaf, constant, call, no_trees, tree, trees_of}
use Rattle.vortex_interface.specs.Trees.{list_of, children_of, called}
use Rattle.vortex_interface.specs.Eval.{tree_type, HasTreeRows}
use Rattle.vortex_interface.specs.Execution.{LeavesFit, AllLeavesFit}
use Rattle.vortex_functions.proofs.Execution.{AllHaveRows, accepted, counts_are, call_answers}
use Rattle.vortex_shipped.proofs.BinaryCalls.{TwoAlike, two_alike, comparison_call}
use Rattle.vortex_shipped.proofs.NumericCalls.{TwoIntegers, two_integers, numeric_call}
use Rattle.vortex_shipped.proofs.BetweenCalls.{ThreeAlike, three_alike, between_call}
use Rattle.vortex_shipped.proofs.NullTestCalls.{null_test_call}
use Rattle.vortex_sql_floats.specs.declared.floats.FloatOperator.{FloatOperator}
use Rattle.vortex_sql_float_columns.specs.KeyedRows.{HasFloatRows}
use Rattle.vortex_sql_float_columns.proofs.FloatRows.{call_rows}
use Rattle.vortex_standard.specs.Standard.{standard_meaning}
use Rattle.vortex_standard.specs.declared.standard.Standard.{Standard}
use Rattle.yurkije_lent.specs.Calls.{IsFloatOperator}
use Rattle.yurkije_lent.specs.Operands.{IsComparison, IsArithmetic}

pub listed_back : {V O : Type 0} (ts : Trees V O) → trees_of (list_of ts) ≡ ts
listed_back no_trees = refl
listed_back (tree t ts) = ap (tree t) (listed_back ts)

-- a call is one of its children
called_is : {V O : Type 0} (t : Tree V O) (f : Function V O) → called t ≡ Some f
    → t ≡ call f (trees_of (children_of t))
called_is (leaf l) f is = cc
called_is (constant s) f is = cc
called_is (call g ts) f is =
    let same : g ≡ f = cc in
    (λ i. call (same i) ts) ∙ ap (call f) (sym (listed_back ts))

pub mapped_at : {A B : Type 0} (f : A → B) (xs : List A) (k : ℕ) (x : A) → slice_get xs k ≡ Some x
    → slice_get (map f xs) k ≡ Some (f x)
mapped_at f [] k x is = let none : None ≡ Some x = is in cc
mapped_at f (y ∷ ys) zero x is = let same : Some y ≡ Some x = is in ap (λ o. Some (f o)) cc
mapped_at f (y ∷ ys) (suc k) x is = mapped_at f ys k x is

pub get_at : {A : Type 0} (xs : List A) (k : ℕ) (x : A) → k < length xs → x ≡ get_or xs k x
    → slice_get xs k ≡ Some x
get_at [] k x lt is = absurd (omega (arith, lt))
get_at (y ∷ ys) zero x lt is = ap Some (sym is)
get_at (y ∷ ys) (suc k) x lt is = get_at ys k x (omega (arith, lt)) is

pub mapped_more : {A B : Type 0} (f : A → B) (xs : List A) (x : A)
    → map f (xs ++ x ∷ []) ≡ map f xs ++ f x ∷ []
mapped_more f [] x = refl
mapped_more f (y ∷ ys) x = ap (λ zs. f y ∷ zs) (mapped_more f ys x)

-- an element of a list of columns of one length
pub counted_at : (n : ℕ) (ds : List ColumnView) (k : ℕ) (c : ColumnView) → AreOfLength n ds
    → slice_get ds k ≡ Some c → length c.rows ≡ n
counted_at n [] k c h is = let none : None ≡ Some c = is in cc
counted_at n (d ∷ ds) zero c h is =
    let same : Some d ≡ Some c = is in
    let one : d ≡ c = cc in
    subst (λ (x : ColumnView). length x.rows ≡ n) one (h 0 d (omega arith))
counted_at n (d ∷ ds) (suc k) c h is =
    counted_at n ds k c (λ i e lt. h (suc i) e (omega (arith, lt))) is

module _ {V O : Type 0} (m : Meaning V O) (cs : List ColumnView) where
  -- one more child fits
  pub fit_more : (ts : List (Tree V O)) (k : ℕ) (t : Tree V O) → AllLeavesFit cs (trees_of (take k ts))
      → k < length ts → t ≡ get_or ts k t → LeavesFit cs t
      → AllLeavesFit cs (trees_of (take (suc k) ts))
  fit_more [] k t h lt is fit = absurd (omega (arith, lt))
  fit_more (x ∷ xs) zero t h lt is fit = (subst (λ (u : Tree V O). LeavesFit cs u) is fit, tt)
  fit_more (x ∷ xs) (suc k) t h lt is fit =
      (h.0, fit_more xs k t h.1 (omega (arith, lt)) is fit)

  pub call_fits : (t : Tree V O) (f : Function V O) → called t ≡ Some f
      → AllLeavesFit cs (trees_of (children_of t)) → LeavesFit cs t
  call_fits t f is h = subst (λ (u : Tree V O). LeavesFit cs u) (sym (called_is t f is)) h

  module _ (n : ℕ) where
    -- one more child has its rows
    pub have_more : (ts : List (Tree V O)) (ds : List ColumnView) (k : ℕ) (t : Tree V O)
        (d : ColumnView)
        → AllHaveRows m cs n (take k ts) ds → k < length ts → t ≡ get_or ts k t
        → HasTreeRows m cs n t d → AllHaveRows m cs n (take (suc k) ts) (ds ++ d ∷ [])
    have_more [] ds k t d h lt is r = absurd (omega (arith, lt))
    have_more (x ∷ xs) [] zero t d h lt is r =
        (subst (λ (u : Tree V O). HasTreeRows m cs n u d) is r, tt)
    have_more (x ∷ xs) (e ∷ ds) zero t d h lt is r = absurd h
    have_more (x ∷ xs) [] (suc k) t d h lt is r = absurd h
    have_more (x ∷ xs) (e ∷ ds) (suc k) t d h lt is r =
        (h.0, have_more xs ds k t d h.1 (omega (arith, lt)) is r)

    module _ (t : Tree V O) (f : Function V O) (ds : List ColumnView) (k : LogicalType)
        (is : called t ≡ Some f) (typed : tree_type m t ≡ Some k)
        (h : AllHaveRows m cs n (children_of t) ds) where
      typed_call : tree_type m (call f (trees_of (children_of t))) ≡ Some k
      typed_call = ap (tree_type m) (sym (called_is t f is)) ∙ typed

      pub call_accepted : (fits (function_arity m f) (length ds) ≡ true)
          × (function_type m f (types_in ds) ≡ Some k)
      call_accepted = accepted m cs n f (children_of t) ds k h typed_call

      pub call_lengths : AreOfLength n ds
      call_lengths = counts_are m cs n (children_of t) ds h

      pub call_has : (c : ColumnView)
          → HasCallRows (function_type m f) (function_means m f) ds n c → HasTreeRows m cs n t c
      call_has c rows =
          subst (λ (u : Tree V O). HasTreeRows m cs n u c) (sym (called_is t f is))
          (call_answers m cs n f (children_of t) ds k (Ok c) h typed_call rows)

-- a comparison of both operands is the call's
module _ {V O : Type 0} (m : Meaning V O) (f : Function V O) (op : CompareOperator)
    (ds : List ColumnView) (l r c : ColumnView) (n : ℕ) (is : IsComparison op f)
    (two : length ds ≡ 2) (typed : IsSome (function_type m f (types_in ds)))
    (left : slice_get ds 0 ≡ Some l) (right : slice_get ds 1 ≡ Some r) where
  alike : TwoAlike is.0 op ds l r
  alike =
      two_alike is.0 op ds l r is.2 two
      (subst (λ (g : Function V O). IsSome (function_type m g (types_in ds))) is.1 typed) left right

  or_true : (a b : Bool) → b ≡ true → (a || b) ≡ true
  or_true true b e = refl
  or_true false b e = e

  pub compared : length l.rows ≡ n → length r.rows ≡ n → HasComparisonRows op l r c
      → HasCallRows (function_type m f) (function_means m f) ds n c
  compared count count' rows =
      subst (λ (g : Function V O). HasCallRows (function_type m g) (function_means m g) ds n c)
      (sym is.1)
      (comparison_call is.0 op ds l r n (Ok c) alike count count'
      (record {
        lengths = count ∙ sym count';
        accepted = or_true (is_settled l r) (alike_types l.dtype r.dtype) alike.alike;
        rows = rows;
      }))

-- so is arithmetic of both
module _ {V O : Type 0} (m : Meaning V O) (f : Function V O) (op : NumericOperator)
    (ds : List ColumnView) (l r c : ColumnView) (n : ℕ) (is : IsArithmetic op f)
    (two : length ds ≡ 2) (typed : IsSome (function_type m f (types_in ds)))
    (left : slice_get ds 0 ≡ Some l) (right : slice_get ds 1 ≡ Some r) where
  integers : TwoIntegers is.0 op ds l r
  integers =
      two_integers is.0 op ds l r is.2 two
      (subst (λ (g : Function V O). IsSome (function_type m g (types_in ds))) is.1 typed) left right

  pub integers_there : IsSome (integer_of_both l.dtype r.dtype)
  integers_there = subst IsSome (sym integers.integers) refl

  pub calculated : length l.rows ≡ n → length r.rows ≡ n → AnswersNumeric op l r c
      → HasCallRows (function_type m f) (function_means m f) ds n c
  calculated count count' rows =
      subst (λ (g : Function V O). HasCallRows (function_type m g) (function_means m g) ds n c)
      (sym is.1)
      (numeric_call is.0 op ds l r n integers (Ok c) count count' rows)

-- and BETWEEN of three
module _ {V O : Type 0} (m : Meaning V O) (f : Function V O) (options : BetweenOptions)
    (ds : List ColumnView) (x lower upper c : ColumnView) (n : ℕ)
    (is : f ≡ ours (Between options))
    (three : length ds ≡ 3) (typed : IsSome (function_type m f (types_in ds)))
    (first : slice_get ds 0 ≡ Some x) (second : slice_get ds 1 ≡ Some lower)
    (third : slice_get ds 2 ≡ Some upper) where
  three_operands : ThreeAlike ds x lower upper
  three_operands =
      three_alike ds x lower upper three
      (subst (λ (g : Function V O). IsSome (function_type m g (types_in ds))) is typed) first second
      third

  pub bounded : length x.rows ≡ n → HasBetweenRows options x lower upper c
      → HasCallRows (function_type m f) (function_means m f) ds n c
  bounded count rows =
      subst (λ (g : Function V O). HasCallRows (function_type m g) (function_means m g) ds n c)
      (sym is)
      (between_call options ds x lower upper n three_operands (Ok c) count rows)

-- and a null test of one
module _ {V O : Type 0} (m : Meaning V O) (f : Function V O) (negated : Bool)
    (ds : List ColumnView) (x c : ColumnView) (n : ℕ) (is : f ≡ ours (NullTest negated))
    (one : length ds ≡ 1) (first : slice_get ds 0 ≡ Some x) where
  pub tested : length x.rows ≡ n → HasTests (null_test_value negated) x c
      → HasCallRows (function_type m f) (function_means m f) ds n c
  tested count rows =
      subst (λ (g : Function V O). HasCallRows (function_type m g) (function_means m g) ds n c)
      (sym is) (null_test_call negated ds x n (Ok c) one first count rows)

-- and arithmetic of two floats
module _ {O : Type 0} (f : Function Standard O) (op : FloatOperator) (ds : List ColumnView)
    (l r c : ColumnView) (n : ℕ) (is : IsFloatOperator op f) (two : length ds ≡ 2)
    (typed : IsSome (function_type standard_meaning f (types_in ds)))
    (left : slice_get ds 0 ≡ Some l) (right : slice_get ds 1 ≡ Some r) where
  pub floated : length l.rows ≡ n → HasFloatRows op l r c
      → HasCallRows (function_type standard_meaning f) (function_means standard_meaning f) ds n c
  floated count rows =
      subst
      (λ (g : Function Standard O). HasCallRows (function_type standard_meaning g)
      (function_means standard_meaning g) ds n c)
      (sym is.1)
      (call_rows op ds l r c n left right two count
      (subst (λ (g : Function Standard O). IsSome (function_type standard_meaning g (types_in ds)))
      is.1 typed)
      rows)
