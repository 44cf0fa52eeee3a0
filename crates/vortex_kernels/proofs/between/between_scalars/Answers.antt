use Rattle.std.proofs.Common.{◌≡◌, ◌∙◌, ap, sym, rules}
use Rattle.vortex_types.specs.LogicalTypes.{bool_type, is_nullable}
use Rattle.vortex_types.specs.TypeOf.{type_of, allows_null}
use Rattle.vortex_types.specs.declared.dtype.DType.{Bool, the_lemmas}
use Rattle.vortex_operators.specs.declared.operators.Operator.TheVariants.{And}
use Rattle.vortex_operators.specs.Between.{bound_operator}
use Rattle.vortex_operators.specs.Kleene.{kleene}
use Rattle.vortex_kernels.specs.Between.{any_nullable}
use Rattle.vortex_kernels.proofs.BoundedRows.{scalars_nullable}
use Rattle.vortex_kernels.proofs.between.between_scalars.Goals as goal

pub null-requires : goal.null-requires
null-requires c =
    let options = c.args.options.now in
    let n = c.nullability_of-nullability.result in
    let named : type_of (Bool n) ≡ bool_type (allows_null n) = search (rules, the_lemmas) in
    let none =
    (λ i. kleene And (sym c.is_below-above.ensures i) (sym c.is_below-below.ensures i))
    ∙ sym c.both.ensures
    ∙ c.in-None.is in
    ap is_nullable named
    ∙ c.nullability_of-nullability.ensures
    ∙ (λ i.
    any_nullable (c.dtype.ensures.dtype i) (c.dtype-2.ensures.dtype i) (c.dtype-3.ensures.dtype i))
    ∙ scalars_nullable (bound_operator options.lower_strict) (bound_operator options.upper_strict)
    c.args.value.now c.args.lower.now c.args.upper.now c.dtype.ensures.typed
    c.dtype-2.ensures.typed c.dtype-3.ensures.typed none
