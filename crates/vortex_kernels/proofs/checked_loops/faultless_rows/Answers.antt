use Rattle.std.proofs.Common.{◌≡◌, map, false}
use Rattle.vortex_kernels.specs.Numeric.{row_results, TellsFaults}
use Rattle.vortex_kernels.proofs.Calculating.{no_fault}
use Rattle.vortex_kernels.proofs.checked_loops.faultless_rows.Goals as goal

pub returns : goal.returns
returns g c =
    let e = c.in_ok-values.fault in
    let is_fault = g.O.Fail.Failure.is_fault in
    let laws = g.met.O.Fail.Failure.evidence in
    let none : is_fault e ≡ false =
    no_fault c.ne.result (g.O.Fail.PartialEq.eq e c.default.result) (is_fault e) c.ne.ensures
    (laws.told e c.default.result c.default.ensures) c.if-ne.false in
    (c.in_ok-values.ensures.values, λ told. c.in_ok-values.ensures.fault none)
