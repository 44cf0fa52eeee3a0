use Rattle.std.proofs.Common.{◌∙◌, sym, ap}
use Rattle.std.specs.Prelude.{◌||◌}
use Rattle.vortex_types.specs.LogicalTypes.{bool_type, is_nullable}
use Rattle.vortex_types.specs.Values.{truth}
use Rattle.vortex_kernels.proofs.Comparing.{scalars_compared}
use Rattle.vortex_kernels.proofs.compare.scalar_cmp.Goals as goal

pub returns-in-Some : goal.returns-in-Some
returns-in-Some c =
    let left = c.nullability.ensures ∙ ap is_nullable c.dtype.ensures.dtype in
    let right = c.nullability-2.ensures ∙ ap is_nullable c.dtype-2.ensures.dtype in
    let either = c.bitor-nullability.ensures ∙ (λ i. left i || right i) in
    let at =
    scalars_compared c.args.operator c.args.lhs.now c.args.rhs.now c.in-Some.order
    (sym c.is_null.ensures ∙ c.if-is_null.false)
    (sym c.is_null-else-is_null.ensures ∙ c.if-is_null-2.false)
    (sym c.partial_cmp.ensures ∙ c.in-Some.is) in (
      at.0,
      c.bool.ensures
          ∙ (λ i.
          record
          { dtype = bool_type (either i); value = (ap truth c.holds.ensures ∙ sym at.1) i }),
    )
