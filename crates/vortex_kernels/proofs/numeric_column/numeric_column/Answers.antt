use Rattle.std.proofs.Common.{length, sym, ◌∙◌, arith}
use Rattle.vortex_columns.specs.ValidityView.{validity_of}
use Rattle.vortex_kernels.specs.Numeric.{row_results, FitWhereValid, FaultsAt}
use Rattle.vortex_kernels.proofs.Calculating.{numeric_answers, found_refuses, none_found}
use Rattle.vortex_kernels.proofs.numeric_column.numeric_column.Goals as goal
use Rattle.vortex_kernels.proofs.numeric_column.numeric_column.Goals.{else-may_fault-via-then-may_fault+in_ok-faulty_row+else-is_some}
use Rattle.vortex_kernels.proofs.numeric_column.numeric_column.Goals.{else-may_fault-via-else-may_fault}

pub returns-then-is_some : goal.returns-then-is_some
returns-then-is_some g c =
    let p = g.T.NativePType.ptype in
    let exact = g.O.CheckedPrimitiveOp.exact in
    let left = g.L.Numbers.number_at c.args.left.now in
    let right = g.R.Numbers.number_at c.args.right.now in
    let l = c.args.lhs.now in
    let r = c.args.rhs.now in
    found_refuses c.args.operator p exact left right l r c.requires.exact c.requires.left.each
    (λ i lt. c.requires.right.each i (omega (arith, c.requires.lengths, lt))) c.requires.types
    c.requires.lengths
    (FitWhereValid p (row_results exact left right) l r (length l.rows)) c.in_ok-faulty_row.field-0
    (sym c.is_some.ensures ∙ c.if-is_some.true) c.in_ok-faulty_row.ensures

pub returns : goal.returns
returns g c =
    let p = g.T.NativePType.ptype in
    let exact = g.O.CheckedPrimitiveOp.exact in
    let left = g.L.Numbers.number_at c.args.left.now in
    let right = g.R.Numbers.number_at c.args.right.now in
    let l = c.args.lhs.now in
    let r = c.args.rhs.now in
    let results = row_results exact left right in
    let fits : FitWhereValid p results l r (length l.rows) =
    elim c.else-may_fault.branch [
      | else-may_fault-via-then-may_fault+in_ok-faulty_row+else-is_some w ↦
          none_found (FitWhereValid p results l r (length l.rows)) (FaultsAt p results l r)
          w.in_ok-faulty_row.field-0 (sym w.is_some.ensures ∙ w.if-is_some.false)
          w.in_ok-faulty_row.ensures
      | else-may_fault-via-else-may_fault w ↦
          λ i lt valid.
          c.requires.fault w.if-may_fault.false i lt
    ] in
    numeric_answers c.args.operator p exact left right l r c.requires.exact c.requires.left.each
    (λ i lt. c.requires.right.each i (omega (arith, c.requires.lengths, lt))) c.requires.types
    c.requires.lengths
    g.T.NativePType.number c.args.calculated.0.items (validity_of c.in_ok-validity.validity)
    c.try_primitive.result c.requires.values fits
    c.in_ok-validity.ensures c.try_primitive.ensures
