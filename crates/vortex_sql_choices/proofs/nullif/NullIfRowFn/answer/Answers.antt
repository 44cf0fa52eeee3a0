use Rattle.std.proofs.Common.{◌<◌, length, sym, subst, arith}
use Rattle.vortex_columns.specs.Cells.{IsCell}
use Rattle.vortex_sql_choices.proofs.nullif.NullIfRowFn.answer.Goals as goal

pub compare-requires-clause-self_whole : goal.compare-requires-clause-self_whole
compare-requires-clause-self_whole c =
    let lt : 0 < length c.args.cells.now = omega (arith, c.in-len2.len_at_least) in
    subst IsCell (sym c.a-item.is) (c.requires 0 c.a-item.result lt)

pub compare-requires-clause-other_whole : goal.compare-requires-clause-other_whole
compare-requires-clause-other_whole c =
    let lt : 1 < length c.args.cells.now = omega (arith, c.in-len2.len_at_least) in
    subst IsCell (sym c.b-item.is) (c.requires 1 c.b-item.result lt)
