-- The value that a cell represents.
use Rattle.std.specs.Prelude.{◌≡◌, ◌+◌, ◌<◌, ◌≤◌, List, [], ◌∷◌, map, take, drop, length, All}
use Rattle.std.specs.Prelude.{IsUtf8}
use Rattle.vortex_types.specs.Values.{Value, null, truth, number, text, bytes, list, values_of}
use Rattle.vortex_types.specs.ValueOf.{value_or_null}
use Rattle.vortex_columns.specs.declared.cell.Cell.{Cell}
use Rattle.vortex_columns.specs.declared.cell.Cell.TheVariants as cell
use Rattle.vortex_columns.specs.declared.cell.Sequence.{Sequence}
use Rattle.vortex_columns.specs.declared.cell.Sequence.TheVariants.{Items, Fields, Elements}
use Rattle.vortex_columns.specs.declared.cell.Sequence.TheVariants.{Entries, Entry}
use Rattle.vortex_columns.specs.ColumnView.{row, entries}

abbrev pub sequence_values : Sequence → List Value
sequence_values (Items items) = map value_or_null items.now.items
sequence_values (Fields fields i) = map (λ c. row c.rows i) fields.now.items
sequence_values (Elements elements start count) = take count (drop start elements.now.rows)
sequence_values (Entries keys values start count) =
    take count (drop start (entries keys.now.rows values.now.rows))
sequence_values (Entry keys values i) = row keys.now.rows i ∷ row values.now.rows i ∷ []

abbrev pub sequence_value : Sequence → Value
sequence_value s = list (values_of (sequence_values s))

abbrev pub cell_value : Cell → Value
cell_value cell.Null = null
cell_value (cell.Bool b) = truth b
cell_value (cell.Int z) = number z
cell_value (cell.Text bs) = text bs.now
cell_value (cell.Bytes bs) = bytes bs.now
cell_value (cell.Sequence s) = sequence_value s

-- what it reads is in range
abbrev pub IsSequence : Sequence → Type 0
IsSequence (Items items) = Unit {0}
IsSequence (Fields fields i) = All (λ c. i < length c.rows) fields.now.items
IsSequence (Elements elements start count) = start + count ≤ length elements.now.rows
IsSequence (Entries keys values start count) =
    (start + count ≤ length keys.now.rows) × (length keys.now.rows ≡ length values.now.rows)
IsSequence (Entry keys values i) = (i < length keys.now.rows) × (i < length values.now.rows)

abbrev pub IsCell : Cell → Type 0
IsCell (cell.Text bs) = IsUtf8 bs.now
IsCell (cell.Sequence s) = IsSequence s
IsCell c = Unit {0}
