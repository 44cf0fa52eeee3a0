use Rattle.std.proofs.Common.{◌<◌, length, sym, ap, ◌∙◌, arith}
use Rattle.vortex_types.specs.LogicalTypes.{field_type}
use Rattle.vortex_types.specs.TypeOf.{type_of}
use Rattle.vortex_types.proofs.TypeViews.{struct_fields-out, struct_count, field_at}
use Rattle.vortex_types.proofs.dtype.StructFields.dtype.Goals as goal

pub index-requires : goal.index-requires
index-requires c =
    let s = c.args.self.now in
    omega (arith, struct_count s, s.fields.ok.0)

pub returns : goal.returns
returns c =
    let s = c.args.self.now in
    let h : c.args.k < length s.fields.items = omega (arith, struct_count s) in
    ap (λ f. type_of f.1) c.index.ensures
    ∙ sym
    (ap (field_type c.args.k) (struct_fields-out s) ∙ field_at s.fields.items c.args.k _ h)
