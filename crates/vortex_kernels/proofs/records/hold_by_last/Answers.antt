use Rattle.vortex_kernels.proofs.FieldOrders.{hold_last, hold_more}
use Rattle.vortex_kernels.proofs.records.hold_by_last.Goals.{in-None+in_ok-bits-in-None}
use Rattle.vortex_kernels.proofs.records.hold_by_last.Goals.{in-Some+in_ok-bits-in-Some}
use Rattle.vortex_kernels.proofs.records.hold_by_last.Goals as goal

pub returns : goal.returns
returns g c =
    let op = g.P.Comparison.operator in
    let l = c.args.lhs.now in
    let r = c.args.rhs.now in
    let n = c.args.count in
    let m = c.args.told in
    let d = c.in-Some-Some.left.now in
    let e = c.in-Some-Some.right.now in
    elim c.match-rest.branch [
      | in-None+in_ok-bits-in-None w ↦ rw w.bits-is
          (hold_last op l r d e n m c.requires.fields c.requires.lengths c.in-Some-Some.ensures.1
          c.in-Some-Some.ensures'.1 w.in_ok-bits-in-None.bits (rw w.in-None.is at c.requires.rest)
          w.in_ok-bits-in-None.ensures)
      | in-Some+in_ok-bits-in-Some w ↦ rw w.bits-is
          (hold_more op l r d e n m c.requires.fields c.requires.lengths c.in-Some-Some.ensures.1
          c.in-Some-Some.ensures'.1 w.in-Some.rest w.in_ok-bits-in-Some.bits
          (rw w.in-Some.is at c.requires.rest) w.in_ok-bits-in-Some.ensures)
    ]
