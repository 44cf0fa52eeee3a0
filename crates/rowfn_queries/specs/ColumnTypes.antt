-- The type of a column, with the kind of its values.
use Rattle.std.specs.Prelude.{Bool, Option}
use Rattle.std.specs.Option.{option_map}
use Rattle.vortex_types.specs.LogicalTypes.{LogicalType}
use Rattle.vortex_types.specs.TypeOf.{type_of}
use Rattle.vortex_logical.specs.declared.kind.Kind.{Kind}
use Rattle.vortex_logical.specs.declared.kind.Kind.TheVariants.{Plain}
use Rattle.vortex_logical.specs.Kinds.{stored_type}
use Rattle.rowfn_queries.specs.declared.column_type.ColumnType.{ColumnType}

-- the type that the column stores, and the kind of its values
pub record KindedType : Type 0 where
  pub stored : LogicalType
  pub kind : Kind

abbrev pub kinded : Kind → LogicalType → KindedType
kinded k t = record { stored = t; kind = k }

abbrev pub plain : LogicalType → KindedType
plain = kinded Plain

abbrev pub type_in : ColumnType → KindedType
type_in t = kinded t.kind (type_of t.dtype)

-- a kind with the type that stores it, with null or without; a plain column has a type of its own
abbrev pub of_kind : Bool → Kind → Option KindedType
of_kind n k = option_map (kinded k) (stored_type k n)
