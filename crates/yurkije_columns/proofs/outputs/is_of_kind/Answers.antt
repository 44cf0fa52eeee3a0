use Rattle.std.proofs.Common.{◌∙◌, ap, sym}
use Rattle.vortex_types.specs.LogicalTypes.{is_nullable}
use Rattle.vortex_types.specs.TypeOf.{type_of}
use Rattle.vortex_types.specs.TypeEquality.{type_eq-decides}
use Rattle.yurkije_columns.specs.Kinds.{kind_type}
use Rattle.yurkije_columns.proofs.outputs.is_of_kind.Goals as goal

pub returns : goal.returns
returns c =
    let decides = type_eq-decides (type_of c.dtype-2.result) (type_of c.dtype-3.result.now) in
    let of_kind =
    c.dtype-2.ensures
    ∙ ap (kind_type c.args.kind) (c.is_nullable.ensures ∙ ap is_nullable c.dtype.ensures.dtype) in
    let of_column = c.dtype-3.ensures.dtype in (
      λ yes. sym of_kind ∙ decides.0 (sym c.eq.ensures ∙ yes) ∙ of_column,
      λ same. c.eq.ensures ∙ decides.1 (of_kind ∙ same ∙ sym of_column),
    )
