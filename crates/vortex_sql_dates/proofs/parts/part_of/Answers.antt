use Rattle.vortex_sql_dates.proofs.PassedYears.{passed_year}
use Rattle.vortex_sql_dates.proofs.parts.part_of.Goals as goal

pub written_year-requires : goal.written_year-requires
written_year-requires c =
    passed_year c.args.day c.year_of.result c.requires.days c.year_of.ensures
