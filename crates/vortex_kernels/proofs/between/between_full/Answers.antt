use Rattle.std.proofs.Common.{◌∙◌, Option, List, Bool, subst}
use Rattle.std.specs.Prelude.{IfSome}
use Rattle.vortex_types.specs.TypeOf.{allows_null}
use Rattle.vortex_columns.specs.ValidityView.{validity_of}
use Rattle.vortex_operators.specs.Between.{bound_operator}
use Rattle.vortex_operators.specs.Operators.{compare_swap}
use Rattle.vortex_kernels.specs.Between.{AreBounded, any_nullable}
use Rattle.vortex_kernels.proofs.BoundedRows.{bounded_answers}
use Rattle.vortex_kernels.proofs.between.between_full.Goals as goal

pub returns : goal.returns
returns c =
    let options = c.args.options.now in
    let x = c.args.array.now in
    let lower = c.args.lower.now in
    let upper = c.args.upper.now in
    let told =
    subst
    (λ (o : Option (List Bool)).
    IfSome o
    (AreBounded (compare_swap (bound_operator options.lower_strict))
    (bound_operator options.upper_strict) x.rows lower.rows upper.rows))
    c.in-Some.is c.in_ok-bits.ensures in
    bounded_answers options x lower upper (allows_null c.nullability_of-nullability.result)
    c.in-Some.bits (validity_of c.in_ok-validity.validity) c.try_bool.result c.requires.lower
    c.requires.upper c.requires.no_lower c.requires.no_upper
    (c.nullability_of-nullability.ensures
    ∙ (λ i.
    any_nullable (c.dtype.ensures.dtype i) (c.dtype-2.ensures.dtype i)
    (c.dtype-3.ensures.dtype i)))
    told c.in_ok-validity.ensures c.try_bool.ensures
