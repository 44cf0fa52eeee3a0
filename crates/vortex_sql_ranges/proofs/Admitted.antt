-- The laws of the ranges.
use Rattle.vortex_sql_ranges.specs.Sound.{AdmitSql}
use Rattle.vortex_sql_ranges.proofs.ChoicesAdmit.{coalesce-calls, widen-calls}
use Rattle.vortex_sql_ranges.proofs.DistinctAdmits.{distinct-calls}
use Rattle.vortex_sql_ranges.proofs.ListedAdmits.{in_list-calls}
use Rattle.vortex_sql_ranges.proofs.TestsAdmit.{test-calls}

pub sql_admitted : AdmitSql
sql_admitted = record {
  in_list = in_list-calls;
  distinct = distinct-calls;
  tests = test-calls;
  coalesce = coalesce-calls;
  widen = widen-calls;
}
