use Rattle.vortex_columns.specs.ValidityView.{validity_of}
use Rattle.vortex_kernels.specs.Numeric.{row_results}
use Rattle.vortex_columns.specs.ValidRows.{either_nullable}
use Rattle.vortex_kernels.proofs.FaultRows.{finds_fault}
use Rattle.vortex_kernels.proofs.faults.faulty_row.Goals as goal

pub returns : goal.returns
returns g c =
    let exact = g.O.CheckedPrimitiveOp.exact in
    let left = g.L.Numbers.number_at c.args.left.now in
    let right = g.R.Numbers.number_at c.args.right.now in
    let l = c.args.lhs.now in
    let r = c.args.rhs.now in
    finds_fault g.T.NativePType.ptype (row_results exact left right) l r (either_nullable l r)
    (validity_of c.args.validity.now) c.in_ok-faults.faults c.first_valid.result
    (rw c.len.ensures at c.in_ok-faults.ensures) c.requires.validity c.first_valid.ensures
