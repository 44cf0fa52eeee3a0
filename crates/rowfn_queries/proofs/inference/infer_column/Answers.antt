use Rattle.std.proofs.Common.{◌+◌, ◌*◌, ap, ap₂, sym, map, option_map, ◌∙◌}
use Rattle.rowfn_queries.specs.Inference.{column_fields}
use Rattle.rowfn_queries.specs.Seen.{seen, seen_with}
use Rattle.rowfn_queries.proofs.SeenMore.{seen_more, column_more, place_within, field_is}
use Rattle.rowfn_queries.proofs.inference.infer_column.Goals as goal

pub loop-row-preserved : goal.loop-row-preserved
loop-row-preserved c =
    let fields = c.args.fields.now in
    let fs = map (option_map (λ f. f.now)) fields in
    let w = c.args.width in
    let j = c.args.column in
    let i = c.loop-row.row in
    let within =
    place_within w c.args.row_count i j _ c.requires.even c.loop-row-test.true c.requires.column in
    c.with-seen.ensures
    ∙ ap₂ seen_with c.loop-row.invariant (field_is fields (i * w + j) _ within)
    ∙ seen_more (column_fields fs w i j) _
    ∙ ap seen (sym (column_more fs w i j))
