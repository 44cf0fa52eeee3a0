use Rattle.std.proofs.Common.{subst}
use Rattle.vortex_columns.specs.ColumnView.{ColumnView}
use Rattle.vortex_columns.specs.Taken.{IsTaken}
use Rattle.vortex_arrays.proofs.CodedRows.{is_constant, comparison_of_values}
use Rattle.vortex_arrays.proofs.dictionary.kernels.DictColumnCompareKernel.compare.Goals as goal

pub returns-in_ok-take-in-Some : goal.returns-in_ok-take-in-Some
returns-in_ok-take-in-Some c =
    let d = c.args.self.now in
    let s = c.in-Some.scalar.now in
    let answer = c.in_ok-take-in-Some in
    let told = c.in_ok-values-in-Some.values.value in
    let taken =
    subst (λ (x : ColumnView). IsTaken x c.codes.result.now answer.field-0) c.deref.ensures
    answer.ensures in (
      is_constant s c.args.rhs.now c.in-Some.ensures,
      comparison_of_values c.args.operator d c.values.result.now c.args.rhs.now told
          answer.field-0 s c.codes.result.now c.values.ensures c.codes.ensures.codes
          c.codes.ensures.below c.in-Some.ensures c.requires.lengths c.requires.alike
          c.in_ok-values-in-Some.ensures taken,
    )
