use Rattle.std.proofs.Common.{length}
use Rattle.vortex_sql_choices.proofs.case.+case_value.Given as goal

abbrev pub decreases-case_value : goal.decreases-case_value
decreases-case_value l = length l.cells.now
