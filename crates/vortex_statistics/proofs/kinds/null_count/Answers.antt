use Rattle.std.proofs.Common.{◌∙◌}
use Rattle.vortex_statistics.proofs.Counting.{unset_are_null, none_null, each_null}
use Rattle.vortex_statistics.proofs.kinds.null_count.Goals as goal

pub returns-in-Every : goal.returns-in-Every
returns-in-Every c = none_null c.args.column.now.rows c.in-Every.ensures.rows.each

pub returns-in-No : goal.returns-in-No
returns-in-No c = c.len.ensures ∙ each_null c.args.column.now.rows c.in-No.ensures.rows.each

pub returns-in-Listed : goal.returns-in-Listed
returns-in-Listed c =
    c.count_unset.ensures
    ∙ unset_are_null _ c.args.column.now.rows c.in-Listed.ensures.rows.fits
    c.in-Listed.ensures.rows.each
