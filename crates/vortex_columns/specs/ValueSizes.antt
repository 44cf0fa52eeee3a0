-- How many steps a walk over a value takes.
use Rattle.std.specs.Prelude.{ℕ, ◌+◌, drop}
use Rattle.vortex_types.specs.Values.{Value, Values, null, truth, number, text, bytes, list}
use Rattle.vortex_types.specs.Values.{no_values, value, values_of}
use Rattle.vortex_columns.specs.Cells.{sequence_values}
use Rattle.vortex_columns.specs.declared.cell.Sequence.{Sequence}

abbrev mutual
  pub value_size : Value → ℕ
  value_size null = 1
  value_size (truth b) = 1
  value_size (number z) = 1
  value_size (text bs) = 1
  value_size (bytes bs) = 1
  value_size (list vs) = values_size vs + 2

  pub values_size : Values → ℕ
  values_size no_values = 0
  values_size (value v vs) = value_size v + values_size vs

-- from index k on
abbrev pub size_from : ℕ → Sequence → ℕ
size_from k s = values_size (values_of (drop k (sequence_values s)))
