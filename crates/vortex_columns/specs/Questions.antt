-- The state of a type check of a value: sequences whose first values are checked, each with the
-- type of the whole.
use Rattle.std.specs.Prelude.{◌≡◌, ℕ, ◌<◌, ◌≤◌, nat_lt, if◌then◌else◌, Bool, List, [], ◌++◌}
use Rattle.std.specs.Prelude.{length, Option, Some, None, option_to_list, Vec}
use Rattle.std.specs.declared.alloc.Global.{Global}
use Rattle.vortex_types.specs.LogicalTypes.{LogicalType, struct_type, list_type}
use Rattle.vortex_types.specs.LogicalTypes.{fixed_size_list_type, map_type, field_count, field_type}
use Rattle.vortex_types.specs.Values.{Value, list}
use Rattle.vortex_types.specs.Typing.{HasType}
use Rattle.vortex_columns.specs.ColumnView.{row}
use Rattle.vortex_columns.specs.Cells.{sequence_values, IsSequence}
use Rattle.vortex_columns.specs.Printing.{element_type}
use Rattle.vortex_columns.specs.Shapes.{shape_type}
use Rattle.vortex_columns.specs.declared.cell.Sequence.{Sequence}
use Rattle.vortex_columns.specs.declared.typing.SequenceCheck.{SequenceCheck}

-- a value that is no list, and has the type
abbrev pub HasSingleType : LogicalType → Value → Type 0
HasSingleType t (list vs) = ⊥
HasSingleType t v = HasType t v

-- a value of the type can have that many values
abbrev pub IsMadeOf : LogicalType → ℕ → Type 0
IsMadeOf (struct_type fs n) count = count ≡ field_count fs
IsMadeOf (list_type t n) count = Unit {0}
IsMadeOf (fixed_size_list_type t s n) count = count ≡ s
IsMadeOf (map_type k v n) count = Unit {0}
IsMadeOf t count = ⊥

-- and the value at index k has this type
abbrev pub part_type : LogicalType → ℕ → LogicalType
part_type (struct_type fs n) k = field_type k fs
part_type t k = element_type t

abbrev pub asked_count : SequenceCheck → ℕ
asked_count f = length (sequence_values f.values)

abbrev pub IsAsking : SequenceCheck → Type 0
IsAsking f = IsSequence f.values × IsMadeOf (shape_type f.shape) (asked_count f)

-- nothing is checked yet
abbrev pub IsOpened : SequenceCheck → Sequence → LogicalType → Type 0
IsOpened f s t =
    IsAsking f × (f.next ≡ 0) × (f.values ≡ s) × (shape_type f.shape ≡ t)

abbrev pub PartHasType : SequenceCheck → ℕ → Type 0
PartHasType f k = HasType (part_type (shape_type f.shape) k) (row (sequence_values f.values) k)

-- each value that is still to be checked has its type
abbrev pub RestHave : SequenceCheck → Type 0
RestHave f = (k : ℕ) → f.next ≤ k → k < asked_count f → PartHasType f k

abbrev pub with_rest : SequenceCheck → Option SequenceCheck
with_rest f = if nat_lt f.next (asked_count f) then Some f else None

abbrev pub frames_in : Option (Vec SequenceCheck Global) → List SequenceCheck
frames_in None = []
frames_in (Some frames) = frames.items

-- pushed after the others, unless nothing is left of it
abbrev pub LiesBehind : Bool → SequenceCheck → List SequenceCheck → List SequenceCheck → Type 0
LiesBehind lies f old new = new ≡ (if lies then old ++ option_to_list (with_rest f) else old)
