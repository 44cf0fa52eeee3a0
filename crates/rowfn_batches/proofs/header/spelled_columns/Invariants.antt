use Rattle.std.proofs.Common.{◌≡◌, map}
use Rattle.std.specs.List.{range_with_len}
use Rattle.vortex_types.specs.TypeOf.{struct_fields}
use Rattle.rowfn_batches.specs.Spellings.{spelled_at}
use Rattle.rowfn_batches.proofs.header.spelled_columns.Given as goal

-- the columns so far
abbrev pub invariant-loop-column : goal.invariant-loop-column
invariant-loop-column l =
    l.columns.items
    ≡ map (spelled_at (struct_fields l.declared) l.places) (range_with_len 0 l.column)
