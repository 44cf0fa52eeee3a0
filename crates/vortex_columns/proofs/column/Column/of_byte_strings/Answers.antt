use Rattle.std.proofs.Common.{ap, ◌∙◌, sym, subst}
use Rattle.vortex_types.specs.LogicalTypes.{bytes_type}
use Rattle.vortex_types.proofs.TypeViews.{type_of-Binary}
use Rattle.vortex_columns.specs.ValidityView.{FitsRows, validity_of}
use Rattle.vortex_columns.proofs.column.Column.of_byte_strings.Goals as goal

pub invariant_of-result : goal.invariant_of-result
invariant_of-result c = (
  (
    type_of-Binary _ ∙ ap bytes_type c.nullability.ensures,
    sym c.len-len.ensures,
    c.learn_bytes.ensures,
  ),
  subst (FitsRows (validity_of c.args.validity)) (sym c.len-len.ensures) c.requires,
  λ i h valid. tt,
)
