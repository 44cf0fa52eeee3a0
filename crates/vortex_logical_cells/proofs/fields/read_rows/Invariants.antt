use Rattle.std.proofs.Common.{◌≡◌, map, take}
use Rattle.std.specs.Vec.{vec_len, vec_capacity}
use Rattle.std.specs.List.{range_with_len}
use Rattle.vortex_types.specs.TypeOf.{allows_null}
use Rattle.vortex_types.specs.Values.{number}
use Rattle.vortex_cells.specs.Cells.{cell_in, cell_apart, AreCells}
use Rattle.vortex_logical_cells.specs.StoredFields.{stored_values}
use Rattle.vortex_logical_cells.proofs.fields.read_rows.Given as goal

-- the values of the fields of the rows so far, and capacity for all
abbrev pub invariant-loop-row : goal.invariant-loop-row
invariant-loop-row g l =
    record {
      said : AreCells (allows_null l.nullability)
          (map (λ x. number (g.T.NativePType.number x)) l.items.items) l.valid.items
          (stored_values (g.R.KindReader.kind l.reader) (allows_null l.nullability)
          (map (cell_apart (map cell_in l.fields) l.width l.column)
          (take l.row (range_with_len 0 l.row_count))));
      items : vec_len l.items ≡ l.row;
      items_room : vec_capacity l.items ≡ l.row_count;
      valid : vec_len l.valid ≡ l.row;
      valid_room : vec_capacity l.valid ≡ l.row_count;
    }
