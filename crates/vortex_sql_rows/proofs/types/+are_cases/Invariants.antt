use Rattle.std.proofs.Common.{length}
use Rattle.vortex_sql_rows.proofs.types.+are_cases.Given as goal

abbrev pub decreases-are_cases : goal.decreases-are_cases
decreases-are_cases l = length l.rest.now
