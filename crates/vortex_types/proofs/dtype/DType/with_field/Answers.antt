use Rattle.std.proofs.Common.{◌∙◌, sym, ap, string_bytes}
use Rattle.vortex_types.specs.LogicalTypes.{struct_type, with_field}
use Rattle.vortex_types.specs.TypeOf.{type_of, allows_null, fields_view}
use Rattle.vortex_types.specs.TypeCopies.{grown}
use Rattle.vortex_types.proofs.TypeViews.{type_of-Struct, struct_fields-out, struct_fields-roll}
use Rattle.vortex_types.proofs.TypeViews.{fields_view_last}
use Rattle.vortex_types.proofs.dtype.DType.with_field.Goals as goal

pub returns-in_ok-push-in-Struct : goal.returns-in_ok-push-in-Struct
returns-in_ok-push-in-Struct c =
    let fs = c.in-Struct.fields in
    let n = c.in-Struct.n in
    let name = string_bytes c.args.name in
    let t = type_of c.args.dtype in
    let is = ap type_of c.in-Struct.is ∙ type_of-Struct fs n in
    type_of-Struct _ n
    ∙ ap (λ f. struct_type f (allows_null n))
    (struct_fields-roll _ ∙ ap fields_view c.in_ok-push-in-Struct.ensures.items
    ∙ fields_view_last fs.fields.items (c.args.name, c.args.dtype)
    ∙ ap (λ f. with_field f name t) (sym (struct_fields-out fs)))
    ∙ sym (ap (λ u. grown u name t) is)
