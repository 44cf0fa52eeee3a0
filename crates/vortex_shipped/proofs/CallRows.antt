-- From the rows of a kernel, one by one, to those of a call.
use Rattle.std.proofs.Common.{◌≡◌, ℕ, ◌<◌, List, Some, sym, ap, ◌∙◌, arith}
use Rattle.std.specs.Prelude.{Result}
use Rattle.vortex_errors.specs.declared.error.VortexError.{VortexError}
use Rattle.vortex_errors.specs.Answers.{AnswersUnlessMemory}
use Rattle.vortex_errors.proofs.Answering.{Answers-weaker}
use Rattle.vortex_types.specs.LogicalTypes.{LogicalType}
use Rattle.vortex_types.specs.Values.{Value}
use Rattle.vortex_columns.specs.ColumnView.{ColumnView}
use Rattle.vortex_kernels.specs.Rows.{HasRows}
use Rattle.vortex_interface.specs.Outcomes.{gives, HasCallRows, IsCallFault, types_in, call_row}
use Rattle.vortex_interface.specs.Shipped.{Shipped, shipped_type, shipped_means}
use Rattle.vortex_interface.specs.Answering.{AnswersShipped}

-- for a function over inputs of n rows that gives a value in each
module _ (s : Shipped) (cs ds : List ColumnView) (given : cs ≡ ds) (n k : ℕ) (e : k ≡ n)
    (t : LogicalType) (value : ℕ → Value) (typed : shipped_type s (types_in ds) ≡ Some t)
    (means : (i : ℕ) → call_row (shipped_means s) ds i ≡ gives (value i)) where
  abbrev Rows : ColumnView → Type 0
  Rows = HasCallRows (shipped_type s) (shipped_means s) cs n

  pub call_rows : (c : ColumnView) → HasRows t k value c → Rows c
  call_rows c h = record {
    dtype = ap (λ xs. shipped_type s (types_in xs)) given ∙ typed ∙ ap Some (sym h.dtype);
    count = h.count ∙ e;
    each = λ i lt.
        let within : i < k = omega (arith, e) in
        ap (λ xs. call_row (shipped_means s) xs i) given ∙ means i ∙ ap gives (sym (h.each i within));
  }

  -- for a result that fails only where memory runs out
  pub call_answered : (answer : Result ColumnView VortexError)
      → AnswersUnlessMemory answer (HasRows t k value) → AnswersShipped s cs n answer
  call_answered answer h =
      Answers-weaker answer (HasRows t k value) Rows (λ f. ⊥) (IsCallFault (shipped_means s) cs n)
      call_rows (λ f p. absurd p) h
