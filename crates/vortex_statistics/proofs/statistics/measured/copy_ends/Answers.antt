use Rattle.vortex_statistics.proofs.MeasuredRows.{ends_at}
use Rattle.vortex_statistics.proofs.statistics.measured.copy_ends.Goals as goal

pub returns-in_ok-high-in-Some : goal.returns-in_ok-high-in-Some
returns-in_ok-high-in-Some c =
    ends_at c.args.column.now c.in-Some.low c.in-Some.high _ _ c.dtype-typed.ensures.typed
    c.in-Some.ensures.0 c.in-Some.ensures.1 c.in_ok-low-in-Some.ensures
    c.in_ok-high-in-Some.ensures
