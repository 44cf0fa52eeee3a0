-- The condition for the values of a cell to have types.
use Rattle.std.specs.Prelude.{◌≡◌, ℕ}
use Rattle.vortex_types.specs.LogicalTypes.{LogicalType}
use Rattle.vortex_types.specs.Values.{Value, Values, values_of, value_count}
use Rattle.vortex_types.specs.Typing.{Each, HasType, IsList, IsPair}
use Rattle.vortex_columns.specs.declared.cell.Sequence.{Sequence}
use Rattle.vortex_columns.specs.Cells.{sequence_values}

abbrev pub values_in : Sequence → Values
values_in s = values_of (sequence_values s)

-- a key and its value, of these types
abbrev pub ArePair : LogicalType → LogicalType → Values → Type 0
ArePair key value = IsPair (HasType key) (HasType value)

abbrev pub IsEntryOf : LogicalType → LogicalType → Value → Type 0
IsEntryOf key value = IsList (ArePair key value)

-- that many values, each of the type
abbrev pub AreSoMany : ℕ → LogicalType → Values → Type 0
AreSoMany n t vs = (value_count vs ≡ n) × Each (HasType t) vs
