use Rattle.std.proofs.Common.{arith, ap, subst}
use Rattle.vortex_columns.specs.Words.{validity_of}
use Rattle.vortex_columns.specs.Stored.{kept, kept_of}
use Rattle.vortex_columns.specs.ColumnParts.{type_weight, column_weights}
use Rattle.vortex_columns.specs.CopyFrames.{IsStoredUnder}
use Rattle.vortex_columns.specs.declared.column.Elements.{Elements}
use Rattle.vortex_columns.proofs.ColumnWeights.{field_weights}
use Rattle.vortex_columns.proofs.column.Elements.open.Goals as goal

pub returns-in-Struct-clause-falls : goal.returns-in-Struct-clause-falls
returns-in-Struct-clause-falls c =
    let fields =
    subst
    (λ (e : Elements). IsStoredUnder c.args.head (kept (kept_of e) (validity_of c.args.validity)))
    c.in-Struct.is c.requires in
    omega (
      arith,
      ap type_weight fields.0.1,
      field_weights _ fields.0.0 _ fields.0.2,
      ap column_weights c.as_slice.ensures.value,
      c.with_fields.ensures.falls,
    )
