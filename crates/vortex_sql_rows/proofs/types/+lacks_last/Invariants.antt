use Rattle.std.proofs.Common.{length}
use Rattle.vortex_sql_rows.proofs.types.+lacks_last.Given as goal

abbrev pub decreases-lacks_last : goal.decreases-lacks_last
decreases-lacks_last l = length l.types.now
