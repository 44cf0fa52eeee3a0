-- Columns that are declared, each with its kind, and its place where one is declared.
use Rattle.std.specs.Prelude.{ℕ, List, [], ◌∷◌, ◌++◌, Option}
use Rattle.vortex_types.specs.LogicalTypes.{Fields, no_fields, with_field}
use Rattle.vortex_types.specs.TypeOf.{struct_fields}
use Rattle.vortex_logical.specs.declared.kind.Kind.{Kind}
use Rattle.rowfn_queries.specs.declared.declared.Declared.{Declared}
use Rattle.rowfn_queries.specs.ColumnTypes.{KindedType}
use Rattle.rowfn_queries.specs.Columns.{Columns}

pub record DeclaredColumns : Type 0 where
  pub fields : Fields
  pub kinds : List Kind
  pub places : List (Option ℕ)

abbrev pub declared_by : Declared → DeclaredColumns
declared_by d = record {
  fields = struct_fields d.columns;
  kinds = d.kinds.items;
  places = d.places.items;
}

abbrev pub no_columns : DeclaredColumns
no_columns = record { fields = no_fields; kinds = []; places = [] }

-- one column more, last
abbrev pub with_column : DeclaredColumns → Option ℕ → List ℕ → KindedType → DeclaredColumns
with_column d place name t = record {
  fields = with_field d.fields name t.stored;
  kinds = d.kinds ++ t.kind ∷ [];
  places = d.places ++ place ∷ [];
}

-- the columns without their places
abbrev pub unplaced : DeclaredColumns → Columns
unplaced d = record { fields = d.fields; kinds = d.kinds }
