use Rattle.std.proofs.Common.{◌≡◌, ◌∙◌, map}
use Rattle.std.proofs.lemmas.List.{map-append}
use Rattle.vortex_kernels.specs.Numeric.{row_results}
use Rattle.vortex_kernels.proofs.Calculating.{results_more, tells_more}
use Rattle.vortex_kernels.proofs.checked_loops.apply_rows.Goals as goal

pub loop-i-preserved : goal.loop-i-preserved
loop-i-preserved g c =
    let p = g.T.NativePType.ptype in
    let number = g.T.NativePType.number in
    let exact = g.O.CheckedPrimitiveOp.exact in
    let is_fault = g.O.Fail.Failure.is_fault in
    let results =
    row_results exact (g.L.Numbers.number_at c.args.left.now)
    (g.R.Numbers.number_at c.args.right.now) in
    let o = exact (number c.at.result) (number c.at-in-loop-i.result) in
    let same : o ≡ results c.loop-i.i = λ j. exact (c.at.ensures j) (c.at-in-loop-i.ensures j) in
    let e = c.apply_checked-value.result.1 in (
      c.push_reserved.ensures.capacity ∙ c.loop-i.invariant.0,
      rw (c.push_reserved.ensures.items, map-append)
          (results_more p results c.loop-i.i (map number c.loop-i.values.items) o
          (number c.apply_checked-value.result.0) c.loop-i.invariant.1 same
          c.apply_checked-value.ensures.exact),
      tells_more p results c.loop-i.i (is_fault c.loop-i.fault) (is_fault e)
          (is_fault c.bitor_assign.new.self) o c.loop-i.invariant.2 same
          c.apply_checked-value.ensures.fault
          (g.met.O.Fail.Failure.evidence.joins c.loop-i.fault e c.bitor_assign.new.self
          c.bitor_assign.ensures.after),
    )
