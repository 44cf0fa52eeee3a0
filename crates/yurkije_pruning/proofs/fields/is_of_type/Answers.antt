use Rattle.std.proofs.Common.{◌∙◌, ap, sym}
use Rattle.vortex_types.specs.TypeOf.{type_of}
use Rattle.vortex_types.specs.TypeEquality.{type_eq-decides}
use Rattle.yurkije_columns.specs.Kinds.{kind_type}
use Rattle.yurkije_pruning.proofs.fields.is_of_type.Goals as goal

pub returns : goal.returns
returns c =
    let decides = type_eq-decides (type_of c.dtype.result) (type_of c.args.dtype.now) in
    let of_kind = c.dtype.ensures ∙ ap (kind_type c.args.kind) c.is_nullable.ensures in (
      λ yes. sym of_kind ∙ decides.0 (sym c.eq.ensures ∙ yes),
      λ same. c.eq.ensures ∙ decides.1 (of_kind ∙ same),
    )
