use Rattle.std.proofs.Common.{ap, ◌∙◌, sym, subst, arith}
use Rattle.vortex_types.specs.LogicalTypes.{text_type}
use Rattle.vortex_types.proofs.TypeViews.{type_of-Utf8}
use Rattle.vortex_columns.specs.ValidityView.{FitsRows, validity_of}
use Rattle.vortex_columns.proofs.column.Column.of_text_values.Goals as goal

pub invariant_of-result : goal.invariant_of-result
invariant_of-result c = (
  (type_of-Utf8 _ ∙ ap text_type c.nullability.ensures, sym c.len-len.ensures),
  subst (FitsRows (validity_of c.args.validity)) (sym c.len-len.ensures) c.requires.0,
  λ i h valid. c.requires.1 i (omega (arith, h, c.len-len.ensures)) valid,
)
