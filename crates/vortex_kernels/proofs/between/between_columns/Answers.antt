use Rattle.std.proofs.Common.{◌∙◌}
use Rattle.vortex_types.specs.TypeOf.{allows_null}
use Rattle.vortex_columns.specs.ValidityView.{validity_of}
use Rattle.vortex_operators.specs.Between.{bound_operator}
use Rattle.vortex_kernels.specs.Between.{any_nullable}
use Rattle.vortex_columns.specs.ValidRows.{either_nullable}
use Rattle.vortex_kernels.proofs.BetweenRows.{are_compared, between_answers}
use Rattle.vortex_kernels.proofs.between.between_columns.Goals as goal

pub returns : goal.returns
returns c =
    let options = c.args.options.now in
    let x = c.args.array.now in
    let lower = c.args.lower.now in
    let upper = c.args.upper.now in
    let above = c.in_ok-above.above in
    let below = c.in_ok-below.below in
    let v = validity_of c.in_ok-above_valid.above_valid in
    let w = validity_of c.in_ok-below_valid.below_valid in
    between_answers options x lower upper (allows_null c.nullability_of-nullability.result) above
    below v w c.kleene_boolean_buffers.result c.requires.lower
    (c.nullability_of-nullability.ensures
    ∙ (λ i.
    any_nullable (c.dtype.ensures.dtype i) (c.dtype-2.ensures.dtype i)
    (c.dtype-3.ensures.dtype i)))
    (are_compared (bound_operator options.lower_strict) (either_nullable lower x) lower x above v
    c.in_ok-above.ensures c.in_ok-above_valid.ensures)
    (are_compared (bound_operator options.upper_strict) (either_nullable x upper) x upper below w
    c.in_ok-below.ensures c.in_ok-below_valid.ensures)
    c.kleene_boolean_buffers.ensures
