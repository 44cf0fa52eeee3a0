use Rattle.std.proofs.Common.{◌≡◌, ◌∙◌, ap, length, true}
use Rattle.vortex_types.specs.LogicalTypes.{with_nullability}
use Rattle.vortex_types.specs.ScalarView.{ScalarView}
use Rattle.vortex_types.specs.Values.{null}
use Rattle.vortex_errors.proofs.Answering.{AnswersUnlessMemory-weaker}
use Rattle.vortex_columns.specs.ColumnView.{ColumnView, constant_column}
use Rattle.vortex_kernels.specs.Rows.{HasScalarRows}
use Rattle.vortex_kernels.specs.Numeric.{null_of}
use Rattle.vortex_kernels.proofs.Comparing.{constant_has_rows}
use Rattle.vortex_kernels.proofs.numeric.null_rows.Goals as goal

pub returns-clause-rows : goal.returns-clause-rows
returns-clause-rows c =
    let t = c.args.lhs.now.dtype in
    let n = length c.args.lhs.now.rows in
    let s = c.null-null.result in
    let typed =
    c.with_nullability.ensures
    ∙ ap (λ u. with_nullability u true) (c.in_ok-dtype.ensures ∙ c.dtype.ensures.dtype) in
    let is : s ≡ null_of t =
    c.null-null.ensures ∙ (λ i. record { dtype = typed i; value = null }) in
    AnswersUnlessMemory-weaker c.constant.result (λ (d : ColumnView). d ≡ constant_column s n)
    (HasScalarRows (null_of t) n)
    (λ d e. constant_has_rows (null_of t) n d (e ∙ ap (λ (x : ScalarView). constant_column x n) is))
    (rw c.len.ensures at c.constant.ensures)
