use Rattle.std.proofs.Common.{◌+ℤ◌, ◌-ℤ◌, ℤ, Option, Some, refl}
use Rattle.vortex_errors.specs.declared.error.NumericOperator.TheVariants.{Add, Sub}
use Rattle.yurkije_lent.specs.Operands.{operand_column}
use Rattle.yurkije_lent.proofs.Calculated.{of_operator}
use Rattle.yurkije_lent.proofs.numeric.calculate_in.Goals as goal

pub returns-in-Add : goal.returns-in-Add
returns-in-Add g c =
    let exact : ℤ → ℤ → Option ℤ = λ a b. Some (a +ℤ b) in
    rw c.in-Add.is
    (of_operator Add exact (operand_column c.args.lhs.now) (operand_column c.args.rhs.now)
    c.calculate.result (λ a b. refl) c.calculate.ensures)

pub returns-in-Sub : goal.returns-in-Sub
returns-in-Sub g c =
    let exact : ℤ → ℤ → Option ℤ = λ a b. Some (a -ℤ b) in
    rw c.in-Sub.is
    (of_operator Sub exact (operand_column c.args.lhs.now) (operand_column c.args.rhs.now)
    c.calculate-in-Sub.result (λ a b. refl) c.calculate-in-Sub.ensures)
