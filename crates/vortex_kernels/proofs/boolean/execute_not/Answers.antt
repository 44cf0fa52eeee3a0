use Rattle.std.proofs.Common.{◌≡◌, length, subst, sym, ◌∙◌}
use Rattle.std.specs.Prelude.{not}
use Rattle.vortex_errors.specs.Answers.{AnswersUnlessMemory}
use Rattle.vortex_types.specs.LogicalTypes.{LogicalType, is_nullable}
use Rattle.vortex_columns.specs.ValidityView.{validity_of}
use Rattle.vortex_types.specs.Values.{is_null}
use Rattle.vortex_errors.proofs.Answering.{AnswersUnlessMemory-weaker}
use Rattle.vortex_columns.specs.ColumnView.{ColumnView, row, constant_column}
use Rattle.vortex_operators.specs.OperatorValues.{not_value}
use Rattle.vortex_kernels.specs.Rows.{HasRows}
use Rattle.vortex_kernels.proofs.Comparing.{constant_image}
use Rattle.vortex_kernels.proofs.RowLemmas.{bool_answers, bool_dtype, not_row}
use Rattle.vortex_kernels.proofs.boolean.execute_not.Goals as goal

pub returns-in-Some-default-clause-rows : goal.returns-in-Some-default-clause-rows
returns-in-Some-default-clause-rows c =
    let input = c.args.input.now in
    let s = c.not_scalar.result in
    AnswersUnlessMemory-weaker c.constant.result
    (λ (d : ColumnView). d ≡ constant_column s (length input.rows))
    (HasRows input.dtype (length input.rows) (λ i. not_value (row input.rows i)))
    (constant_image not_value input c.in-Some-default.scalar.now s c.in-Some-default.ensures
    c.not_scalar.ensures)
    (rw c.len.ensures at c.constant.ensures)

pub returns-in_ok-validity-in-None-Some-clause-rows :
    goal.returns-in_ok-validity-in-None-Some-clause-rows
returns-in_ok-validity-in-None-Some-clause-rows c =
    let input = c.args.input.now in
    let xs = c.in-None-Some.bits.now in
    let are = c.in-None-Some.ensures'.1 in
    let bits = c.in_ok-values-in-None-Some.values in
    let told = c.in_ok-values-in-None-Some.ensures in
    subst
    (λ (t : LogicalType).
    AnswersUnlessMemory c.try_bool.result
    (HasRows t (length input.rows) (λ i. not_value (row input.rows i))))
    (sym (bool_dtype input.dtype c.requires))
    (bool_answers (is_nullable input.dtype) (length input.rows)
    (λ i. not (is_null (row input.rows i))) (λ i. not_value (row input.rows i)) bits
    (validity_of c.in_ok-validity-in-None-Some.validity) c.try_bool.result
    (told.count ∙ are.count) c.in_ok-validity-in-None-Some.ensures
    (not_row input xs bits are told)
    c.try_bool.ensures)
