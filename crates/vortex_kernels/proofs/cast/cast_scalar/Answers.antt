use Rattle.std.proofs.Common.{◌≡◌, ◌∙◌, sym, true, ap, rules}
use Rattle.vortex_types.specs.LogicalTypes.{LogicalType, bool_type}
use Rattle.vortex_types.specs.TypeOf.{type_of}
use Rattle.vortex_types.specs.Values.{Value, null}
use Rattle.vortex_types.specs.declared.dtype.DType.{Bool, the_lemmas}
use Rattle.vortex_types.specs.declared.dtype.Nullability.TheVariants.{Nullable}
use Rattle.vortex_kernels.proofs.CastRows.{only_null}
use Rattle.vortex_kernels.proofs.cast.cast_scalar.Goals as goal

pub returns-in-None : goal.returns-in-None
returns-in-None c =
    let s = c.args.scalar.now in
    let nullable : type_of (Bool Nullable) ≡ bool_type true = search (rules, the_lemmas) in
    let is_null =
    only_null s.dtype s.value c.requires c.dtype.ensures.typed
    (sym c.as_bool_opt.ensures ∙ c.in-None.is) in
    c.null.ensures
    ∙ ap (λ (t : LogicalType). record { dtype = t; value = null }) nullable
    ∙ ap (λ (v : Value). record { dtype = bool_type true; value = v }) is_null
