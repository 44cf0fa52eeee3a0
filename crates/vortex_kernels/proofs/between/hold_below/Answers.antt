use Rattle.std.proofs.Common.{ap}
use Rattle.vortex_operators.specs.Between.{bound_operator}
use Rattle.vortex_operators.specs.Operators.{compare_swap}
use Rattle.vortex_operators.specs.declared.operators.CompareOperator.TheVariants.{Gt, Gte}
use Rattle.vortex_kernels.proofs.BetweenRows.{answers_turned}
use Rattle.vortex_kernels.proofs.between.hold_below.Goals as goal

pub returns-in-true-Strict : goal.returns-in-true-Strict
returns-in-true-Strict c =
    answers_turned (bound_operator c.args.strict) Gt c.args.lhs.now.rows c.args.rhs.now.rows
    c.hold_in_rows.result
    (ap (λ s. compare_swap (bound_operator s)) c.in-true-Strict.is-1)
    c.requires c.hold_in_rows.ensures

pub returns-in-true-NonStrict : goal.returns-in-true-NonStrict
returns-in-true-NonStrict c =
    answers_turned (bound_operator c.args.strict) Gte c.args.lhs.now.rows c.args.rhs.now.rows
    c.hold_in_rows-in-true-NonStrict.result
    (ap (λ s. compare_swap (bound_operator s)) c.in-true-NonStrict.is-1)
    c.requires c.hold_in_rows-in-true-NonStrict.ensures
