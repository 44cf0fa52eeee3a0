-- The names of a struct's fields.
use Rattle.std.specs.Prelude.{ℕ, zero, suc, List, []}
use Rattle.vortex_types.specs.LogicalTypes.{Fields, no_fields, field}

-- the name of a field, by its index
abbrev pub field_name : ℕ → Fields → List ℕ
field_name k no_fields = []
field_name zero (field name t fs) = name
field_name (suc k) (field name t fs) = field_name k fs
