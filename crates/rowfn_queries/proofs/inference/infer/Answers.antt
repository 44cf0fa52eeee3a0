use Rattle.std.proofs.Common.{map, option_map}
use Rattle.rowfn_queries.specs.ColumnTypes.{type_in}
use Rattle.rowfn_queries.specs.Inference.{inferred, column_fields}
use Rattle.rowfn_queries.proofs.SeenMore.{made_more}
use Rattle.rowfn_queries.proofs.inference.infer.Goals as goal

pub loop-column-preserved : goal.loop-column-preserved
loop-column-preserved c =
    rw c.in_ok-push.ensures.items
    (made_more (λ t. type_in t)
    (λ j. inferred
    (column_fields (map (option_map (λ f. f.now)) c.args.fields.now) c.args.width c.args.row_count j))
    c.loop-column.types.items _ c.loop-column.column c.loop-column.invariant
    c.infer_column.ensures)
