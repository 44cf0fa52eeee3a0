-- An upper bound on how many columns a column is made of, and on their depth: both follow from its
-- type.
use Rattle.std.specs.Prelude.{ℕ, suc, ◌+◌, List, [], ◌∷◌, max, Option, Some, None}
use denote.Param.Weighed.{most}
use Rattle.vortex_types.specs.LogicalTypes.{LogicalType, null_type, bool_type, integer_type}
use Rattle.vortex_types.specs.LogicalTypes.{text_type, bytes_type, struct_type, list_type}
use Rattle.vortex_types.specs.LogicalTypes.{fixed_size_list_type, map_type, Fields, no_fields}
use Rattle.vortex_types.specs.LogicalTypes.{field, type_depth}
use Rattle.vortex_columns.specs.ColumnView.{ColumnView}
use Rattle.vortex_columns.specs.declared.column.dropping.Within.{Within}
use Rattle.vortex_columns.specs.declared.column.dropping.Within.TheVariants.{One, Two, Many}

-- an empty struct weighs more than a leaf
abbrev mutual
  pub type_weight : LogicalType → ℕ
  type_weight null_type = 1
  type_weight (bool_type n) = 1
  type_weight (integer_type p n) = 1
  type_weight (text_type n) = 1
  type_weight (bytes_type n) = 1
  type_weight (struct_type fs n) = suc (suc (fields_weight fs))
  type_weight (list_type t n) = suc (type_weight t)
  type_weight (fixed_size_list_type t s n) = suc (type_weight t)
  type_weight (map_type k v n) = suc (type_weight k + type_weight v)

  pub fields_weight : Fields → ℕ
  fields_weight no_fields = 0
  fields_weight (field name t fs) = type_weight t + fields_weight fs

abbrev pub column_weights : List ColumnView → ℕ
column_weights [] = 0
column_weights (c ∷ cs) = type_weight c.dtype + column_weights cs

abbrev pub deepest : List ColumnView → ℕ
deepest = most (λ c. type_depth c.dtype + 1)

abbrev pub weight_within : Option Within → ℕ
weight_within None = 0
weight_within (Some (One c)) = type_weight c.value.dtype
weight_within (Some (Two k v)) = type_weight k.value.dtype + type_weight v.value.dtype
weight_within (Some (Many fields)) = suc (column_weights fields.items)

abbrev pub deepest_within : Option Within → ℕ
deepest_within None = 0
deepest_within (Some (One c)) = type_depth c.value.dtype + 1
deepest_within (Some (Two k v)) = max (type_depth k.value.dtype) (type_depth v.value.dtype) + 1
deepest_within (Some (Many fields)) = deepest fields.items
