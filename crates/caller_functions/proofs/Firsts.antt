-- The function that returns its first argument: its result, and the results of its rules for a
-- call.
use Rattle.std.proofs.Common.{◌≡◌, ℕ, zero, suc, ◌<◌, List, [], ◌∷◌, length, Option, Some, None, true}
use Rattle.std.proofs.Common.{sym, ap, ◌∙◌, arith}
use Rattle.std.specs.Prelude.{slice_get, Result}
use Rattle.vortex_errors.specs.declared.arity.Arity.TheVariants.{Variadic}
use Rattle.vortex_errors.specs.declared.error.VortexError.{VortexError}
use Rattle.vortex_errors.specs.Answers.{Answers, AnswersUnlessMemory}
use Rattle.vortex_errors.proofs.Answering.{Answers-weaker}
use Rattle.vortex_types.specs.LogicalTypes.{LogicalType}
use Rattle.vortex_columns.specs.ColumnView.{ColumnView, row}
use Rattle.vortex_interface.specs.Outcomes.{gives, types_in, HasCallRows, IsCallFault}
use Rattle.vortex_interface.specs.Meaning.{fits}
use Rattle.vortex_interface.specs.Functions.{custom}
use Rattle.vortex_interface.specs.Trees.{Tree, leaf, constant, call, no_trees, tree, children_of}
use Rattle.vortex_interface.specs.Trees.{called}
use Rattle.vortex_interface.specs.Eval.{tree_type}
use Rattle.vortex_interface.specs.ReduceRules.{reduce}
use Rattle.vortex_rewriting.proofs.Calls.{children_fit}
use Rattle.caller_functions.specs.First.{first_type, first_value, first_meaning, first_rules}

at_least_one : (n : ℕ) → fits (Variadic 1 None) n ≡ true → 0 < n
at_least_one zero h = cc
at_least_one (suc n) h = omega arith

module _ {V O : Type 0} where
  -- a well-typed call has a first argument
  pub has_first : (t : Tree V O) (f : V) (o : O) (k : LogicalType) → called t ≡ Some (custom f o)
      → tree_type first_meaning t ≡ Some k → 0 < length (children_of t)
  has_first t f o k c h =
      at_least_one (length (children_of t)) (children_fit first_meaning t (custom f o) k c h)

  -- and that one replaces the call
  pub first_reduced : (t u : Tree V O) (f : V) (o : O) → called t ≡ Some (custom f o)
      → slice_get (children_of t) 0 ≡ Some u → Some u ≡ reduce first_meaning first_rules t
  first_reduced (leaf l) u f o c h = cc
  first_reduced (constant s) u f o c h = cc
  first_reduced (call g no_trees) u f o c h = cc
  first_reduced (call g (tree x ts)) u f o c h =
      let is : g ≡ custom f o = cc in
      sym h ∙ ap (λ k. reduce first_meaning first_rules (call k (tree x ts))) (sym is)

pub first_type_is : (cs : List ColumnView) (c : ColumnView) → slice_get cs 0 ≡ Some c
    → first_type (types_in cs) ≡ Some c.dtype
first_type_is [] c h = cc
first_type_is (x ∷ cs) c h = let same : x ≡ c = cc in ap (λ (z : ColumnView). Some z.dtype) same

module _ (type : List LogicalType → Option LogicalType) where
  rows_are : (cs : List ColumnView) (c d : ColumnView) (n : ℕ) → type (types_in cs) ≡ Some c.dtype
      → slice_get cs 0 ≡ Some c → length c.rows ≡ n → d ≡ c
      → HasCallRows type (λ ts. first_value) cs n d
  rows_are [] c d n t h e is = cc
  rows_are (x ∷ cs) c d n t h e is =
      let same : x ≡ c = cc in
      let all : x ≡ d = same ∙ sym is in
      record {
        dtype = t ∙ ap (λ (z : ColumnView). Some z.dtype) (sym is);
        count = ap (λ (z : ColumnView). length z.rows) is ∙ e;
        each = λ i lt. ap (λ (z : ColumnView). gives (row z.rows i)) all;
      }

  -- a copy of the first input is the result of a function whose value is the first
  pub copy_answers : (cs : List ColumnView) (c : ColumnView) (n : ℕ)
      (answer : Result ColumnView VortexError) → type (types_in cs) ≡ Some c.dtype
      → slice_get cs 0 ≡ Some c → length c.rows ≡ n → AnswersUnlessMemory answer (λ d. d ≡ c)
      → Answers answer (HasCallRows type (λ ts. first_value) cs n)
      (IsCallFault (λ ts. first_value) cs n)
  copy_answers cs c n answer t h e a =
      Answers-weaker answer (λ d. d ≡ c) (HasCallRows type (λ ts. first_value) cs n) (λ f. ⊥)
      (IsCallFault (λ ts. first_value) cs n) (λ d p. rows_are cs c d n t h e p)
      (λ f p. absurd p) a
