use Rattle.std.proofs.Common.{◌≡◌, ℕ, List, subst, length}
use Rattle.std.specs.Prelude.{Option, count_by}
use Rattle.vortex_types.specs.Values.{is_null}
use Rattle.vortex_statistics.specs.StatisticsView.{EndView}
use Rattle.rowfn_index.specs.Measured.{LiesBelow, LiesAbove}
use Rattle.rowfn_index.proofs.Widened.{widened, shown, counted}
use Rattle.rowfn_index.proofs.measured.column_ends.Goals as goal

pub returns : goal.returns
returns c =
    widened c.args.column.now c.in_ok-statistics.statistics
    (record { nulls = c.unwrap_or.result; low = c.in_ok-low.low; high = c.in_ok-high.high })
    c.in_ok-statistics.ensures.parts c.in_ok-statistics.ensures.describes
    (counted c.nulls.result c.in_ok-statistics.statistics.nulls c.unwrap_or.result
    (count_by is_null c.args.column.now.rows) c.nulls.ensures c.in_ok-statistics.ensures.parts.nulls
    c.unwrap_or.ensures)
    (subst (λ (e : Option EndView). LiesBelow c.in_ok-low.low e)
    (shown c.low.result c.in_ok-statistics.statistics.low c.low.ensures) c.in_ok-low.ensures)
    (subst (λ (e : Option EndView). LiesAbove c.in_ok-high.high e)
    (shown c.high.result c.in_ok-statistics.statistics.high c.high.ensures) c.in_ok-high.ensures)
