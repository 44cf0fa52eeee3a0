use Rattle.std.proofs.Common.{arith, ap, subst}
use Rattle.vortex_types.specs.LogicalTypes.{type_depth}
use Rattle.vortex_types.specs.TypeOf.{type_of}
use Rattle.vortex_columns.specs.ColumnView.{ColumnView}
use Rattle.vortex_columns.specs.Stored.{IsStored, stored_of}
use Rattle.vortex_columns.specs.Falls.{most_le-fields_depth}
use Rattle.vortex_columns.specs.ColumnParts.{type_weight}
use Rattle.vortex_columns.specs.declared.column.Storage.{Storage}
use Rattle.vortex_columns.specs.declared.column.Elements.{Elements}
use Rattle.vortex_columns.specs.declared.column.Storage.TheVariants.{Rows}
use Rattle.vortex_columns.proofs.ColumnWeights.{field_weights}
use Rattle.vortex_columns.proofs.column.Column.within.Goals as goal

pub returns-in-Struct-clause-fewer : goal.returns-in-Struct-clause-fewer
returns-in-Struct-clause-fewer c =
    let rows =
    subst (λ (s : Storage). IsStored c.self.inside.len (type_of c.self.inside.dtype) (stored_of s))
    c.in-Rows.is c.self.invariant in
    let fields =
    subst
    (λ (e : Elements). IsStored c.self.inside.len (type_of c.self.inside.dtype)
    (stored_of (Rows e c.in-Rows._validity)))
    c.in-Struct.is rows in
    omega (
      arith,
      ap (λ (d : ColumnView). type_weight d.dtype) c.self.view_is,
      ap type_weight fields.0.1,
      field_weights _ fields.0.0 _ fields.0.2,
    )

pub returns-in-Struct-clause-falls : goal.returns-in-Struct-clause-falls
returns-in-Struct-clause-falls c =
    let rows =
    subst (λ (s : Storage). IsStored c.self.inside.len (type_of c.self.inside.dtype) (stored_of s))
    c.in-Rows.is c.self.invariant in
    let fields =
    subst
    (λ (e : Elements). IsStored c.self.inside.len (type_of c.self.inside.dtype)
    (stored_of (Rows e c.in-Rows._validity)))
    c.in-Struct.is rows in
    omega (
      arith,
      ap (λ (d : ColumnView). type_depth d.dtype) c.self.view_is,
      ap type_depth fields.0.1,
      most_le-fields_depth _ fields.0.0 _ fields.0.2,
    )
