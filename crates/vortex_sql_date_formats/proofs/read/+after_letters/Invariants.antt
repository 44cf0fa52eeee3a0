use Rattle.std.proofs.Common.{length}
use Rattle.vortex_sql_date_formats.proofs.read.+after_letters.Given as goal

abbrev pub decreases-after_letters : goal.decreases-after_letters
decreases-after_letters l = length l.letters.now
