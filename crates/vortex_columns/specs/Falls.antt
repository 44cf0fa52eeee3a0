-- A column's type is deeper than those of the columns inside it.
use Rattle.std.specs.Prelude.{ℕ, ◌+◌, ◌≤◌, max, Bool, List, [], ◌∷◌}
use Rattle.std.proofs.Common.{arith, ap}
use denote.Param.Weighed.{most}
use Rattle.vortex_types.specs.LogicalTypes.{LogicalType, type_depth, fields_depth, Fields}
use Rattle.vortex_types.specs.LogicalTypes.{no_fields, field}
use Rattle.vortex_columns.specs.ColumnView.{ColumnView}
use Rattle.vortex_columns.specs.ValidityView.{form_allows_null, validity_of}
use Rattle.vortex_columns.specs.Stored.{AreFields, AreKept, IsStored, kept_of, stored_of}
use Rattle.vortex_columns.specs.declared.column.Storage.{Storage}
use Rattle.vortex_columns.specs.declared.column.Storage.TheVariants.{Null, Constant, Rows}
use Rattle.vortex_columns.specs.declared.column.Elements.{Elements}
use Rattle.vortex_columns.specs.declared.column.Elements.TheVariants as elements
use Rattle.vortex_columns.specs.declared.column.Column.TheDeep.{deep-Storage, deep-Elements}

pub most_le-fields_depth : (n : ℕ) (fs : Fields) (cs : List ColumnView) → AreFields n fs cs
    → most (λ c. type_depth c.dtype + 1) cs ≤ fields_depth fs + 1
most_le-fields_depth n no_fields [] h = omega arith
most_le-fields_depth n (field name t fs) (c ∷ cs) h =
    omega (arith, ap type_depth h.0, most_le-fields_depth n fs cs h.3)
most_le-fields_depth n no_fields (c ∷ cs) h = absurd h
most_le-fields_depth n (field name t fs) [] h = absurd h

elements_fall : (n : ℕ) (t : LogicalType) (m : Bool) (e : Elements) → AreKept n t m (kept_of e)
    → deep-Elements e ≤ type_depth t
elements_fall n t m (elements.Bool bits) h = omega arith
elements_fall n t m (elements.Primitive ints) h = omega arith
elements_fall n t m (elements.Utf8 values) h = omega arith
elements_fall n t m (elements.Binary values) h = omega arith
elements_fall n t m (elements.Struct fields) h =
    omega (arith, ap type_depth h.1, most_le-fields_depth n h.0 fields.items h.2)
elements_fall n t m (elements.List e offsets sizes) h = omega (arith, ap type_depth h.0)
elements_fall n t m (elements.FixedSizeList e size) h = omega (arith, ap type_depth h.0)
elements_fall n t m (elements.Map keys values offsets sizes) h = omega (arith, ap type_depth h.0)

pub storage_falls : (n : ℕ) (t : LogicalType) (s : Storage) → IsStored n t (stored_of s)
    → max (deep-Storage s) 0 ≤ type_depth t
storage_falls n t Null h = omega arith
storage_falls n t (Constant s) h = omega arith
storage_falls n t (Rows e v) h =
    omega (arith, elements_fall n t (form_allows_null (validity_of v).form) e h.0)
