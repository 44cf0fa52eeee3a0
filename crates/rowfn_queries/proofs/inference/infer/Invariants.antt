use Rattle.std.proofs.Common.{◌≡◌, map, option_map}
use Rattle.std.specs.List.{range_with_len}
use Rattle.rowfn_queries.specs.ColumnTypes.{type_in}
use Rattle.rowfn_queries.specs.Inference.{inferred, column_fields}
use Rattle.rowfn_queries.proofs.inference.infer.Given as goal

-- the types of the columns so far
abbrev pub invariant-loop-column : goal.invariant-loop-column
invariant-loop-column l =
    map (λ t. type_in t) l.types.items
    ≡ map (λ j. inferred
    (column_fields (map (option_map (λ f. f.now)) l.fields) l.width l.row_count j))
    (range_with_len 0 l.column)
