use Rattle.std.proofs.Common.{◌≡◌, ◌<◌, length, arith}
use Rattle.vortex_errors.proofs.Answering.{Answers-weaker}
use Rattle.vortex_kernels.specs.Rows.{HasRows}
use Rattle.vortex_kernels.specs.Comparison.{AnswersCompare, RefusesCompare}
use Rattle.vortex_kernels.proofs.Comparing.{constants_compared}
use Rattle.vortex_kernels.proofs.compare.execute_compare.Goals as goal

pub returns-in-Some-Some : goal.returns-in-Some-Some
returns-in-Some-Some c =
    let l = c.args.lhs.now in
    let r = c.args.rhs.now in
    let s = c.in_ok-scalar_cmp.field-0 in
    let some : 0 < length l.rows = grind arith in
    let same : length l.rows ≡ length r.rows = grind arith in
    Answers-weaker c.constant_rows-in-Some-Some.result
    (HasRows s.dtype (length l.rows) (λ i. s.value)) (AnswersCompare c.args.operator l r)
    (λ e. ⊥) (RefusesCompare l r)
    (λ d h.
    constants_compared c.args.operator l r c.in-Some-Some.left.now c.in-Some-Some.right.now s d
    some same c.in-Some-Some.ensures c.in-Some-Some.ensures' c.in_ok-scalar_cmp.ensures.0
    c.in_ok-scalar_cmp.ensures.1 h)
    (λ e p. absurd p) c.constant_rows-in-Some-Some.ensures
