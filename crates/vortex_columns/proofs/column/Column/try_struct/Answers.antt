use Rattle.std.proofs.Common.{◌∙◌, rules}
use Rattle.vortex_types.specs.LogicalTypes.{struct_type}
use Rattle.vortex_types.proofs.TypeViews.{type_of-Struct}
use Rattle.vortex_columns.specs.ColumnView.{named_columns}
use Rattle.vortex_columns.proofs.NamedColumns.{named_types_of, are_fields, same_count}
use Rattle.vortex_columns.proofs.column.Column.try_struct.Goals as goal

pub invariant_of-result : goal.invariant_of-result
invariant_of-result c =
    let ns = c.args.names.items in
    let ts = c.in_ok-types_of.field-0.items in
    let cs = c.args.fields.items in
    let named = c.in_ok-types.ensures.1 ∙ named_types_of ns ts cs c.in_ok-types_of.ensures in (
      (
        named_columns ns cs,
        type_of-Struct _ _ ∙ (λ i. struct_type (named i) (c.nullability.ensures i)),
        are_fields c.args.len ns cs
            (same_count ns ts cs c.in_ok-types.ensures.0.0 c.in_ok-types_of.ensures)
            (c.all_have_len.ensures.0 (search rules)) c.learn_types.ensures,
      ),
      c.fits.ensures.0 (search rules),
      λ i h valid. tt,
    )

pub returns : goal.returns
returns c =
    let ns = c.args.names.items in
    let ts = c.in_ok-types_of.field-0.items in
    let cs = c.args.fields.items in
    let named = c.in_ok-types.ensures.1 ∙ named_types_of ns ts cs c.in_ok-types_of.ensures in
    let typed = type_of-Struct _ _ ∙ (λ i. struct_type (named i) (c.nullability.ensures i)) in (
      (
        same_count ns ts cs c.in_ok-types.ensures.0.0 c.in_ok-types_of.ensures,
        c.in_ok-types.ensures.0.1,
        c.all_have_len.ensures.0 (search rules),
        c.fits.ensures.0 (search rules),
      ),
      search (rules, typed),
    )
