-- A tree of shipped functions fails exactly where arithmetic in it overflows or divides by zero.
use Rattle.std.proofs.Common.{◌≡◌, ℕ, ◌<◌, ℤ, List, [], ◌∷◌, Option, Some, None, refl, sym, ap, ◌∙◌}
use Rattle.std.proofs.Common.{subst, inl, inr}
use Rattle.vortex_types.specs.declared.dtype.PType.{PType}
use Rattle.vortex_errors.specs.declared.error.NumericOperator.{NumericOperator}
use Rattle.vortex_errors.specs.declared.error.VortexError.{VortexError}
use Rattle.vortex_errors.specs.declared.error.VortexError.TheVariants.{Arithmetic}
use Rattle.vortex_types.specs.LogicalTypes.{LogicalType}
use Rattle.vortex_types.specs.Values.{Value, number}
use Rattle.vortex_columns.specs.ColumnView.{ColumnView}
use Rattle.vortex_operators.specs.declared.operators.Operator.{Operator}
use Rattle.vortex_operators.specs.Arithmetic.{exact_result, held, arithmetic_value}
use Rattle.vortex_operators.specs.Arithmetic.{numeric_operator_of}
use Rattle.vortex_interface.specs.Outcomes.{Fault, faults, arithmetic, error_of, GivesValue}
use Rattle.vortex_interface.specs.Outcomes.{IsRowFault}
use Rattle.vortex_interface.specs.Meaning.{Meaning}
use Rattle.vortex_interface.specs.Arithmetic.{integer_of, arithmetic_of, arithmetic_means}
use Rattle.vortex_interface.specs.Arithmetic.{value_or_fault, arithmetic_fault}
use Rattle.vortex_interface.specs.Shipped.{Shipped, Binary, shipped_means}
use Rattle.vortex_interface.specs.Shipped.BinaryFunction.{means_by}
use Rattle.vortex_interface.specs.Functions.{Function, ours, custom, function_means}
use Rattle.vortex_interface.specs.Trees.{Tree, leaf, constant, call, Trees, no_trees, tree}
use Rattle.vortex_interface.specs.Eval.{all_give, then_means, tree_types, types_or_none, eval}
use Rattle.vortex_interface.specs.Eval.{eval_all, AllSettled, IsFirstFault, IsFirstFaultIn}
use Rattle.vortex_interface.specs.Execution.{LeavesFit, other_length, RefusesColumns, unfit, uneven}
use Rattle.vortex_interface.specs.Execution.{RefusesExecution, misfit, faulty}
use Rattle.vortex_interface.specs.Weights.{OnlyShipped, AllShipped}
use Rattle.vortex_interface.specs.Running.{FaultsSomewhere}
use Rattle.vortex_interface.specs.ArithmeticFaults.{Overflows, HasOverflow, AnyHasOverflow}
use Rattle.vortex_interface.specs.ArithmeticFaults.{FaultsExactly, ErrsWhereArithmeticDoes}
use Rattle.vortex_interface.proofs.FaultyRows.{no_value_faults, values_in, InputsFault, call_faults}
use Rattle.vortex_interface.proofs.FaultyRows.{first_faults, later_faults}

module _ {V O : Type 0} (m : Meaning V O) (cs : List ColumnView) (n : ℕ) (o : NumericOperator) where
  overflow_faults : (f : Function V O) (ts : Trees V O) (i : ℕ) → Overflows m cs o f ts i
      → eval m cs (call f ts) i ≡ faults (arithmetic o)
  overflow_faults f ts i h =
      let types = types_or_none (tree_types m ts) in
      let values = number h.left ∷ number h.right ∷ [] in
      (λ j. then_means (function_means m (h.called j) types) (h.operands j))
      ∙ ap (λ k. means_by k h.operator types values) h.numeric
      ∙ ap (λ p. arithmetic_of o p (number h.left) (number h.right)) h.integers
      ∙ ap (value_or_fault o) h.unheld

  -- a row of a tree with an overflow faults
  mutual
    row_faults : (t : Tree V O) → HasOverflow m cs n o t → FaultsSomewhere m cs n t
    row_faults (leaf l) h = absurd h
    row_faults (constant s) h = absurd h
    row_faults (call f ts) (inl h) = call_faults m cs n f ts (input_faults ts h)
    row_faults (call f ts) (inr h) = (h.0, h.1, arithmetic o, overflow_faults f ts h.0 h.2)

    input_faults : (ts : Trees V O) → AnyHasOverflow m cs n o ts → InputsFault m cs n ts
    input_faults no_trees h = absurd h
    input_faults (tree t ts) (inl h) = first_faults m cs n t ts (row_faults t h)
    input_faults (tree t ts) (inr h) = later_faults m cs n t ts (input_faults ts h)

-- Where arithmetic of a row faults, both operands are numbers, and the type does not hold the
-- result.
pub record IsUnheld (o : NumericOperator) (ts : List LogicalType) (vs : List Value) : Type 0 where
  pub ptype : PType
  pub integers : integer_of ts ≡ Some ptype
  pub left : ℤ
  pub right : ℤ
  pub operands : vs ≡ number left ∷ number right ∷ []
  pub unheld : held ptype (exact_result o left right) ≡ None

module _ (o : NumericOperator) (x : Fault) where
  none_of : (r : Option Value) → value_or_fault o r ≡ faults x → r ≡ None
  none_of None e = refl
  none_of (Some v) e = cc

  unheld_pair : (ts : List LogicalType) (p : PType) → integer_of ts ≡ Some p → (v w : Value)
      → arithmetic_value o p v w ≡ None → IsUnheld o ts (v ∷ w ∷ [])
  unheld_pair ts p known (number a) (number b) e =
      record { ptype = p; integers = known; left = a; right = b; operands = refl; unheld = e }
  unheld_pair ts p known v w e = cc

  unheld_by : (ts : List LogicalType) (k : Option PType) → integer_of ts ≡ k → (v w : Value)
      → arithmetic_of o k v w ≡ faults x → IsUnheld o ts (v ∷ w ∷ [])
  unheld_by ts None known v w e = cc
  unheld_by ts (Some p) known v w e = unheld_pair ts p known v w
      (none_of (arithmetic_value o p v w) e)

  unheld_of : (ts : List LogicalType) (vs : List Value) → arithmetic_means o ts vs ≡ faults x
      → IsUnheld o ts vs
  unheld_of ts (v ∷ w ∷ []) e = unheld_by ts (integer_of ts) refl v w e
  unheld_of ts vs e = cc

module _ {V O : Type 0} (m : Meaning V O) (cs : List ColumnView) (n : ℕ) where
  -- the error is one of arithmetic, and some call overflows
  abbrev Tells : VortexError → (NumericOperator → Type 0) → Type 0
  Tells e P = (o : NumericOperator) × (e ≡ Arithmetic o) × P o

  fault_of_operator : (op : Operator) (k : Option NumericOperator) → numeric_operator_of op ≡ k
      → (ts : Trees V O) (vs : List Value) (i : ℕ) (x : Fault) (e : VortexError) → i < n
      → eval_all m cs ts i ≡ all_give vs
      → means_by k op (types_or_none (tree_types m ts)) vs ≡ faults x → e ≡ error_of x
      → Tells e (λ o. HasOverflow m cs n o (call (ours (Binary op)) ts))
  fault_of_operator op None known ts vs i x e lt given here told = cc
  fault_of_operator op (Some o) known ts vs i x e lt given here told =
      let types = types_or_none (tree_types m ts) in
      let u = unheld_of o x types vs here in
      let own = arithmetic_fault o types vs x here in (
        o,
        told ∙ ap error_of own,
        inr (
          i,
          lt,
          record {
            operator = op;
            called = refl;
            numeric = known;
            ptype = u.ptype;
            integers = u.integers;
            left = u.left;
            right = u.right;
            operands = given ∙ ap all_give u.operands;
            unheld = u.unheld;
          },
        ),
      )

  -- a function that always gives a value faults in no row
  no_fault : (s : Shipped)
      → ((us : List LogicalType) (vs : List Value) → GivesValue (shipped_means s us vs))
      → (ts : Trees V O) → AllSettled m cs n ts → (e : VortexError)
      → IsRowFault n (eval m cs (call (ours s) ts)) e → ⊥
  no_fault s gives_value ts h e r =
      let p = values_in m cs n ts h r.at r.below in
      let types = types_or_none (tree_types m ts) in
      let here : shipped_means s types p.0 ≡ faults r.fault =
      sym (ap (then_means (shipped_means s types)) p.1) ∙ r.here in
      subst GivesValue here (gives_value types p.0)

  fault_of_call : (s : Shipped) (ts : Trees V O) → AllSettled m cs n ts → (e : VortexError)
      → IsRowFault n (eval m cs (call (ours s) ts)) e
      → Tells e (λ o. HasOverflow m cs n o (call (ours s) ts))
  fault_of_call (Binary op) ts h e r =
      let p = values_in m cs n ts h r.at r.below in
      let means = shipped_means (Binary op) (types_or_none (tree_types m ts)) in
      let here = sym (ap (then_means means) p.1) ∙ r.here in
      fault_of_operator op (numeric_operator_of op) refl ts p.0 r.at r.fault e r.below p.1 here
      r.told
  fault_of_call s ts h e r = absurd (no_fault s (λ us vs. tt) ts h e r)

  mutual
    tells : (t : Tree V O) → OnlyShipped t → (e : VortexError) → IsFirstFault m cs n t e
        → Tells e (λ o. HasOverflow m cs n o t)
    tells (leaf l) h e k = absurd k
    tells (constant s) h e k = absurd k
    tells (call (custom f o) ts) h e k = absurd h.0
    tells (call (ours s) ts) h e (inl k) =
        let p = tells_in ts h.1 e k in (p.0, p.1, inl p.2)
    tells (call (ours s) ts) h e (inr k) = fault_of_call s ts k.0 e k.1

    tells_in : (ts : Trees V O) → AllShipped ts → (e : VortexError) → IsFirstFaultIn m cs n ts e
        → Tells e (λ o. AnyHasOverflow m cs n o ts)
    tells_in no_trees h e k = absurd k
    tells_in (tree t ts) h e (inl k) = let p = tells t h.0 e k in (p.0, p.1, inl p.2)
    tells_in (tree t ts) h e (inr k) = let p = tells_in ts h.1 e k.1 in (p.0, p.1, inr p.2)

module _ {V O : Type 0} (m : Meaning V O) (cs : List ColumnView) (n : ℕ) (t : Tree V O)
    (e : VortexError) (fit : LeavesFit cs t) (even : other_length n cs ≡ None) where
  serves : RefusesColumns cs n t e → ⊥
  serves (unfit h is) = h fit
  serves (uneven l h other is) = cc

  -- over columns that match, the error reports the first fault
  pub refuses_first : RefusesExecution m cs n t e → IsFirstFault m cs n t e
  refuses_first (misfit h) = absurd (serves h)
  refuses_first (faulty h other first) = first

pub faults_exactly : {V O : Type 0} (m : Meaning V O) (cs : List ColumnView) (n : ℕ)
    (t : Tree V O) → OnlyShipped t → FaultsExactly m cs n t
faults_exactly m cs n t own = record {
  refused = tells m cs n t own;
  answered = λ c h o k.
      let r = row_faults m cs n o t k in
      no_value_faults (eval m cs t r.0) r.2 r.3 _ (h.each r.0 r.1);
}

pub errs_where_arithmetic_does : {V O : Type 0} (m : Meaning V O) → ErrsWhereArithmeticDoes m
errs_where_arithmetic_does m cs n t own fit even =
    let exactly = faults_exactly m cs n t own in
    record {
      refused = λ e r.
          let first = refuses_first m cs n t e fit even r in
          (first, exactly.refused e first);
      answered = λ c h. exactly.answered c h.rows;
    }
