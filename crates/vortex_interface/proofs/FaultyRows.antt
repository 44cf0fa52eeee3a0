-- Rows in which a tree has a value, and rows in which it faults.
use Rattle.std.proofs.Common.{◌≡◌, ℕ, ◌<◌, List, [], ◌∷◌, refl, ap, inl, inr}
use Rattle.vortex_errors.specs.declared.error.VortexError.{VortexError}
use Rattle.vortex_types.specs.Values.{Value}
use Rattle.vortex_columns.specs.ColumnView.{ColumnView}
use Rattle.vortex_interface.specs.Outcomes.{Outcome, gives, faults, Fault, GivesValue}
use Rattle.vortex_interface.specs.Meaning.{Meaning}
use Rattle.vortex_interface.specs.Functions.{Function, function_means}
use Rattle.vortex_interface.specs.Trees.{Tree, leaf, constant, call, Trees, no_trees, tree}
use Rattle.vortex_interface.specs.Eval.{Inputs, all_give, one_faults, with_first, then_means}
use Rattle.vortex_interface.specs.Eval.{tree_types, types_or_none, eval, eval_all, AllSettled}
use Rattle.vortex_interface.specs.Eval.{IsFirstFault, IsFirstFaultIn}
use Rattle.vortex_interface.specs.Running.{FaultsSomewhere}

pub no_value_faults : (x : Outcome) (f : Fault) → x ≡ faults f → (v : Value) → x ≡ gives v → ⊥
no_value_faults x f e v g = cc

first_fault : (x : Outcome) (inputs : Inputs) (y : Fault) → inputs ≡ one_faults y
    → (z : Fault) × (with_first x inputs ≡ one_faults z)
first_fault (faults x) inputs y e = (x, refl)
first_fault (gives v) inputs y e = (y, ap (with_first (gives v)) e)

pub value_in : (x : Outcome) → GivesValue x → (v : Value) × (x ≡ gives v)
value_in (gives v) h = (v, refl)
value_in (faults f) h = absurd h

module _ {V O : Type 0} (m : Meaning V O) (cs : List ColumnView) (n : ℕ) where
  -- children that have a value in each row have values in one
  pub values_in : (ts : Trees V O) → AllSettled m cs n ts → (i : ℕ) → i < n
      → (vs : List Value) × (eval_all m cs ts i ≡ all_give vs)
  values_in no_trees h i lt = ([], refl)
  values_in (tree t ts) h i lt =
      let v = value_in (eval m cs t i) (h.0 i lt) in
      let vs = values_in ts h.1 i lt in
      (v.0 ∷ vs.0, λ j. with_first (v.1 j) (vs.1 j))

  -- some row of some of the children faults
  abbrev pub InputsFault : Trees V O → Type 0
  InputsFault ts = (i : ℕ) × (i < n) × (x : Fault) × (eval_all m cs ts i ≡ one_faults x)

  pub call_faults : (f : Function V O) (ts : Trees V O) → InputsFault ts
      → FaultsSomewhere m cs n (call f ts)
  call_faults f ts k =
      let means = function_means m f (types_or_none (tree_types m ts)) in
      (k.0, k.1, k.2, ap (then_means means) k.3)

  pub first_faults : (t : Tree V O) (ts : Trees V O) → FaultsSomewhere m cs n t
      → InputsFault (tree t ts)
  first_faults t ts k = (k.0, k.1, k.2, ap (λ x. with_first x (eval_all m cs ts k.0)) k.3)

  pub later_faults : (t : Tree V O) (ts : Trees V O) → InputsFault ts → InputsFault (tree t ts)
  later_faults t ts k =
      let z = first_fault (eval m cs t k.0) (eval_all m cs ts k.0) k.2 k.3 in
      (k.0, k.1, z.0, z.1)

  -- an error that reports a tree's first fault has a faulting row of the tree
  mutual
    pub fault_row : (t : Tree V O) (e : VortexError) → IsFirstFault m cs n t e
        → FaultsSomewhere m cs n t
    fault_row (leaf l) e k = absurd k
    fault_row (constant s) e k = absurd k
    fault_row (call f ts) e (inl k) = call_faults f ts (fault_row_in ts e k)
    fault_row (call f ts) e (inr k) = (k.1.at, k.1.below, k.1.fault, k.1.here)

    fault_row_in : (ts : Trees V O) (e : VortexError) → IsFirstFaultIn m cs n ts e → InputsFault ts
    fault_row_in no_trees e k = absurd k
    fault_row_in (tree t ts) e (inl k) = first_faults t ts (fault_row t e k)
    fault_row_in (tree t ts) e (inr k) = later_faults t ts (fault_row_in ts e k.1)
