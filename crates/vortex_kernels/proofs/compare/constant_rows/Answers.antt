use Rattle.std.proofs.Common.{◌≡◌, length}
use Rattle.vortex_columns.specs.ColumnView.{ColumnView, constant_column}
use Rattle.vortex_errors.proofs.Answering.{AnswersUnlessMemory-weaker}
use Rattle.vortex_kernels.specs.Rows.{HasRows}
use Rattle.vortex_kernels.proofs.Comparing.{constant_has_rows}
use Rattle.vortex_kernels.proofs.compare.constant_rows.Goals as goal

pub returns : goal.returns
returns c =
    let s = c.args.scalar in
    let n = length c.args.lhs.now.rows in
    AnswersUnlessMemory-weaker c.constant.result (λ (d : ColumnView). d ≡ constant_column s n)
    (HasRows s.dtype n (λ i. s.value)) (constant_has_rows s n)
    (rw c.len.ensures at c.constant.ensures)
