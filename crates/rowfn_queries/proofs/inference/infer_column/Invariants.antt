use Rattle.std.proofs.Common.{◌≡◌, map, option_map}
use Rattle.rowfn_queries.specs.Inference.{column_fields}
use Rattle.rowfn_queries.specs.Seen.{seen}
use Rattle.rowfn_queries.proofs.inference.infer_column.Given as goal

-- what is known of the rows so far
abbrev pub invariant-loop-row : goal.invariant-loop-row
invariant-loop-row l =
    l.seen ≡ seen (column_fields (map (option_map (λ f. f.now)) l.fields) l.width l.row l.column)
