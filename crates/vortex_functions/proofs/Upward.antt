-- A property of a node holds for its children, and a child's fault is its parent's.
use Rattle.std.specs.Prelude.{◌≡◌, ℕ, zero, suc, List, [], ◌∷◌, length, take, slice_get, Some}
use Rattle.std.proofs.Common.{subst, inl, inr}
use Rattle.std.specs.declared.borrow.Cow.{Cow}
use Rattle.std.specs.Cow.{cow_value}
use Rattle.vortex_errors.specs.declared.error.VortexError.{VortexError}
use Rattle.vortex_errors.specs.Answers.{UnlessMemory}
use Rattle.vortex_errors.proofs.Answering.{UnlessMemory-weaker}
use Rattle.vortex_columns.specs.ColumnView.{ColumnView}
use Rattle.vortex_interface.specs.Meaning.{Meaning}
use Rattle.vortex_interface.specs.Trees.{Tree, leaf, constant, call, Trees, no_trees, tree}
use Rattle.vortex_interface.specs.Trees.{children_of, list_of}
use Rattle.vortex_interface.specs.Eval.{IsFirstFault, IsFirstFaultIn}
use Rattle.vortex_interface.specs.Execution.{LeavesFit, AllLeavesFit}
use Rattle.vortex_functions.specs.Walks.{AllMean}
use Rattle.vortex_functions.specs.Executing.{HasRows}
use Rattle.vortex_functions.proofs.Execution.{settled}

module _ {V O : Type 0} where
  fit_among : (cs : List ColumnView) (ts : Trees V O) (child : Tree V O) (k : ℕ)
      → slice_get (list_of ts) k ≡ Some child → AllLeavesFit cs ts → LeavesFit cs child
  fit_among cs no_trees child k at h = cc
  fit_among cs (tree t ts) child zero at h =
      let q : t ≡ child = cc in subst (λ (x : Tree V O). LeavesFit cs x) q h.0
  fit_among cs (tree t ts) child (suc k) at h = fit_among cs ts child k at h.1

  pub fit_downward : (cs : List ColumnView) (t child : Tree V O) (k : ℕ)
      → slice_get (children_of t) k ≡ Some child → LeavesFit cs t → LeavesFit cs child
  fit_downward cs (leaf l) child k at h = cc
  fit_downward cs (constant s) child k at h = cc
  fit_downward cs (call f ts) child k at h = fit_among cs ts child k at h

  module _ (m : Meaning V O) (cs : List ColumnView) (n : ℕ) where
    fault_among : (ts : Trees V O) (child : Tree V O) (os : List (Cow ColumnView))
        (e : VortexError)
        → AllMean (HasRows m cs n) (take (length os) (list_of ts)) os
        → slice_get (list_of ts) (length os) ≡ Some child → IsFirstFault m cs n child e
        → IsFirstFaultIn m cs n ts e
    fault_among no_trees child os e h at r = cc
    fault_among (tree t ts) child [] e h at r =
        let q : child ≡ t = cc in inl (subst (λ (x : Tree V O). IsFirstFault m cs n x e) q r)
    fault_among (tree t ts) child (o ∷ os) e h at r =
        inr (settled m cs n t (cow_value o) h.0, fault_among ts child os e h.1 at r)

    call_upward : (t child : Tree V O) (os : List (Cow ColumnView)) (e : VortexError)
        → AllMean (HasRows m cs n) (take (length os) (children_of t)) os
        → slice_get (children_of t) (length os) ≡ Some child → IsFirstFault m cs n child e
        → IsFirstFault m cs n t e
    call_upward (leaf l) child os e h at r = cc
    call_upward (constant s) child os e h at r = cc
    call_upward (call f ts) child os e h at r = inl (fault_among ts child os e h at r)

    pub fault_upward : (t child : Tree V O) (os : List (Cow ColumnView)) (e : VortexError)
        → AllMean (HasRows m cs n) (take (length os) (children_of t)) os
        → slice_get (children_of t) (length os) ≡ Some child
        → UnlessMemory (IsFirstFault m cs n child) e → UnlessMemory (IsFirstFault m cs n t) e
    fault_upward t child os e h at r =
        UnlessMemory-weaker (IsFirstFault m cs n child) (IsFirstFault m cs n t)
        (λ d p. call_upward t child os d h at p) e r
