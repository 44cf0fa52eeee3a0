use Rattle.std.proofs.Common.{◌≡◌, false, ap, ◌∙◌}
use Rattle.vortex_errors.proofs.Answering.{AnswersUnlessMemory-weaker}
use Rattle.vortex_types.specs.LogicalTypes.{bool_type}
use Rattle.vortex_types.specs.ScalarView.{ScalarView}
use Rattle.vortex_types.specs.Values.{truth}
use Rattle.vortex_columns.specs.ColumnView.{ColumnView, constant_column}
use Rattle.vortex_kernels.specs.NullTests.{HasTruths}
use Rattle.vortex_kernels.proofs.Comparing.{constant_has_rows}
use Rattle.vortex_kernels.proofs.null_tests.one_truth.Goals as goal

pub returns-clause-rows : goal.returns-clause-rows
returns-clause-rows c =
    let s : ScalarView = record { dtype = bool_type false; value = truth c.args.truth } in
    AnswersUnlessMemory-weaker c.constant.result
    (λ (d : ColumnView). d ≡ constant_column c.bool-scalar.result c.args.len)
    (HasTruths c.args.len (λ i. c.args.truth))
    (λ d e.
    constant_has_rows s c.args.len d
    (e ∙ ap (λ (x : ScalarView). constant_column x c.args.len) c.bool-scalar.ensures))
    c.constant.ensures
