-- For a column without a false row, the result of the function that faults at false.
use Rattle.std.proofs.Common.{◌≡◌, ◌≢◌, ℕ, ◌<◌, Bool, true, false, List, [], ◌∷◌, length}
use Rattle.std.proofs.Common.{map, Some, refl, sym, ap, ◌∙◌, subst, arith}
use Rattle.std.specs.Prelude.{Result}
use Rattle.vortex_errors.specs.declared.error.VortexError.{VortexError}
use Rattle.vortex_types.specs.LogicalTypes.{LogicalType, bool_type, is_nullable}
use Rattle.vortex_types.specs.Values.{Value, null, truth, truth_of}
use Rattle.vortex_types.specs.Typing.{HasType}
use Rattle.vortex_columns.specs.ColumnView.{ColumnView, row, AreTyped}
use Rattle.vortex_errors.specs.Answers.{Answers, AnswersUnlessMemory}
use Rattle.vortex_errors.proofs.Answering.{Answers-weaker}
use Rattle.vortex_kernels.proofs.RowLemmas.{bool_dtype}
use Rattle.vortex_interface.specs.Outcomes.{gives, faults, custom, HasCallRows, IsCallFault, types_in}
use Rattle.vortex_interface.specs.Shipped.NotFunction.{not_type}
use Rattle.vortex_shipped.proofs.NotCalls.{OneBool, not_type_is}
use Rattle.caller_functions.specs.MustBeTrue.{must_be_true}

true_or_null : (n : Bool) (v : Value) → HasType (bool_type n) v → truth_of v ≢ Some false
    → must_be_true (v ∷ []) ≡ gives v
true_or_null n null h k = refl
true_or_null n (truth true) h k = refl
true_or_null n (truth false) h k = absurd (k refl)
true_or_null n v h k = absurd h

false_faults : (v : Value) → truth_of v ≡ Some false → must_be_true (v ∷ []) ≡ faults (custom 1)
false_faults (truth false) e = refl
false_faults (truth true) e = cc
false_faults v e = cc

-- a false row is a fault
pub fault_here : (cs : List ColumnView) (c : ColumnView) (n i : ℕ) → OneBool cs c → i < n
    → truth_of (row c.rows i) ≡ Some false
    → must_be_true (map (λ d. row d.rows i) cs) ≡ faults (custom 1)
fault_here cs c n i one h e =
    ap (λ (ds : List ColumnView). must_be_true (map (λ d. row d.rows i) ds)) one.only
    ∙ false_faults (row c.rows i) e

rows_are : (cs : List ColumnView) (c d : ColumnView) (n : ℕ) → OneBool cs c
    → AreTyped c.dtype c.rows → length c.rows ≡ n
    → ((i : ℕ) → i < n → truth_of (row c.rows i) ≢ Some false) → d ≡ c
    → HasCallRows not_type (λ ts. must_be_true) cs n d
rows_are cs c d n one typed e none is = record {
  dtype =
      ap (λ ds. not_type (types_in ds)) one.only
      ∙ not_type_is c.dtype one.bool
      ∙ ap (λ (x : ColumnView). Some x.dtype) (sym is);
  count = ap (λ (x : ColumnView). length x.rows) is ∙ e;
  each = λ i lt.
      ap (λ (ds : List ColumnView). must_be_true (map (λ x. row x.rows i) ds)) one.only
      ∙ true_or_null (is_nullable c.dtype) (row c.rows i)
      (subst (λ (t : LogicalType). HasType t (row c.rows i)) (bool_dtype c.dtype one.bool)
      (typed i null (omega (arith, e)))) (none i lt)
      ∙ ap (λ (x : ColumnView). gives (row x.rows i)) (sym is);
}

pub copy_answers : (cs : List ColumnView) (c : ColumnView) (n : ℕ)
    (answer : Result ColumnView VortexError)
    → OneBool cs c → AreTyped c.dtype c.rows → length c.rows ≡ n
    → ((i : ℕ) → i < n → truth_of (row c.rows i) ≢ Some false)
    → AnswersUnlessMemory answer (λ d. d ≡ c)
    → Answers answer (HasCallRows not_type (λ ts. must_be_true) cs n)
    (IsCallFault (λ ts. must_be_true) cs n)
copy_answers cs c n answer one typed e none h =
    Answers-weaker answer (λ d. d ≡ c) (HasCallRows not_type (λ ts. must_be_true) cs n) (λ f. ⊥)
    (IsCallFault (λ ts. must_be_true) cs n) (λ d p. rows_are cs c d n one typed e none p)
    (λ f p. absurd p) h
