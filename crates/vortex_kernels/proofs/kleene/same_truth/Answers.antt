use Rattle.std.proofs.Common.{◌≡◌, ◌∙◌}
use Rattle.vortex_errors.proofs.Answering.{AnswersUnlessMemory-weaker}
use Rattle.vortex_types.specs.TypeOf.{allows_null}
use Rattle.vortex_columns.specs.ColumnView.{ColumnView, constant_column}
use Rattle.vortex_kernels.specs.Kleene.{HasTruthRows}
use Rattle.vortex_kernels.proofs.Comparing.{constant_has_rows}
use Rattle.vortex_kernels.proofs.kleene.same_truth.Goals as goal

pub returns : goal.returns
returns c =
    let s = c.truth_scalar.result in
    AnswersUnlessMemory-weaker c.constant.result
    (λ (d : ColumnView). d ≡ constant_column s c.args.len)
    (HasTruthRows (allows_null c.args.nullability) c.args.len (λ i. c.args.truth))
    (λ d e.
    let rows = constant_has_rows s c.args.len d e in
    record {
      dtype = rows.dtype ∙ c.truth_scalar.ensures.dtype;
      count = rows.count;
      each = λ i lt. rows.each i lt
          ∙ c.truth_scalar.ensures.value (λ plain. c.requires plain i lt);
    })
    c.constant.ensures
