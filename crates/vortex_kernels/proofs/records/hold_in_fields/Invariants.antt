use Rattle.std.specs.Prelude.{◌≡◌, MatchOption}
use Rattle.vortex_kernels.specs.Records.{HoldByLast}
use Rattle.vortex_kernels.proofs.records.hold_in_fields.Given as goal

abbrev pub invariant-loop-told : goal.invariant-loop-told
invariant-loop-told g l =
    MatchOption l.rest (l.told ≡ 0)
    (HoldByLast g.P.Comparison.operator l.count l.told l.lhs.rows l.rhs.rows)
