-- Columns that are read of scopes: each name once, with the type and kind of the first that has it.
use Rattle.std.specs.Prelude.{ℕ, zero, suc, min, Bool, true, List, length, get_or, fold, is_some}
use Rattle.std.specs.Prelude.{if◌then◌else◌, String, string_bytes, [], ◌∷◌, ◌++◌}
use Rattle.std.specs.List.{list_any}
use Rattle.std.specs.Str.{bytes_eq}
use Rattle.std.specs.declared.alloc.Global.{Global}
use Rattle.vortex_types.specs.FieldNames.{field_name}
use Rattle.vortex_types.specs.LogicalTypes.{Fields, no_fields, with_field, null_type, find_field}
use Rattle.vortex_types.specs.LogicalTypes.{field_count, field_type, text_type}
use Rattle.vortex_types.specs.TypeOf.{struct_fields}
use Rattle.vortex_logical.specs.declared.kind.Kind.{Kind}
use Rattle.vortex_logical.specs.declared.kind.Kind.TheVariants.{Plain}
use Rattle.rowfn_queries.specs.declared.columns.Gathered.{Gathered}
use Rattle.rowfn_queries.specs.declared.columns.Scope.{Scope}
use Rattle.rowfn_queries.specs.ColumnTypes.{KindedType, kinded, plain}

-- columns, and the kinds of their values by place; further columns are plain
pub record Columns : Type 0 where
  pub fields : Fields
  pub kinds : List Kind

abbrev pub gathered_in : Gathered → Columns
gathered_in g = record { fields = struct_fields g.fields; kinds = g.kinds.items }

abbrev pub scope_in : Scope → Columns
scope_in s = record { fields = struct_fields s.fields.now; kinds = s.kinds.now }

-- where no column has a kind, a plain one: so a text without columns may have values of kinds
abbrev pub kinds_or_plain : List Kind → List Kind
kinds_or_plain [] = Plain ∷ []
kinds_or_plain (k ∷ kinds) = k ∷ kinds

abbrev pub of_kinds : Columns → Columns
of_kinds cs = record { fields = cs.fields; kinds = kinds_or_plain cs.kinds }

abbrev pub none : Columns
none = record { fields = no_fields; kinds = [] }

-- whether a name is one of these
abbrev pub is_among : List (List ℕ) → List ℕ → Bool
is_among names name = list_any (λ other. bytes_eq other name) names

abbrev pub with_last : Columns → List ℕ → KindedType → Columns
with_last cs name t = record {
  fields = with_field cs.fields name t.stored;
  kinds = cs.kinds ++ t.kind ∷ [];
}

-- a column more, where none has its name
abbrev pub with_new : Columns → List ℕ → KindedType → Columns
with_new cs name t =
    if is_some (find_field name cs.fields) then cs else with_last cs name t

-- columns of a name and a type each, by their places
module _ (name_at : ℕ → List ℕ) (type_at : ℕ → KindedType) (wanted : List ℕ → Bool)
    (columns : Columns) where
  -- the first n of them that are wanted, behind others
  abbrev pub with_first : ℕ → Columns
  with_first zero = columns
  with_first (suc n) =
      if wanted (name_at n) then with_new (with_first n) (name_at n) (type_at n) else with_first n

-- the name, the type and the kind of a column
abbrev pub name_in : Columns → ℕ → List ℕ
name_in scope k = field_name k scope.fields

abbrev pub column_at : Columns → ℕ → KindedType
column_at scope k = kinded (get_or scope.kinds k Plain) (field_type k scope.fields)

-- those of a scope that are wanted, behind others
abbrev pub with_wanted : (List ℕ → Bool) → Columns → Columns → Columns
with_wanted wanted scope columns =
    with_first (name_in scope) (column_at scope) wanted columns (field_count scope.fields)

abbrev pub with_all : Columns → Columns → Columns
with_all = with_wanted (λ name. true)

-- columns of these names and types
abbrev pub typed_columns : List (List ℕ) → List KindedType → Columns
typed_columns names types =
    with_first (λ k. get_or names k []) (λ k. get_or types k (plain null_type)) (λ name. true) none
    (min (length names) (length types))

-- columns of texts, by their names, behind others
abbrev pub with_texts : List (String Global) → Columns → Columns
with_texts names columns =
    fold (λ cs name. with_new cs (string_bytes name) (plain (text_type true))) columns names
