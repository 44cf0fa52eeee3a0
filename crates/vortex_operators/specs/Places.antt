-- The index of an operator in the table: comparisons, then And and Or, then arithmetic.
use Rattle.std.specs.Prelude.{ℕ}
use Rattle.vortex_operators.specs.declared.operators.Operator.{Operator}
use Rattle.vortex_operators.specs.declared.operators.Operator.TheVariants.{Eq, NotEq, Gt, Gte, Lt}
use Rattle.vortex_operators.specs.declared.operators.Operator.TheVariants.{Lte, And, Or, Add, Sub}
use Rattle.vortex_operators.specs.declared.operators.Operator.TheVariants.{Mul, Div}

abbrev pub place_of : Operator → ℕ
place_of Eq = 0
place_of NotEq = 1
place_of Gt = 2
place_of Gte = 3
place_of Lt = 4
place_of Lte = 5
place_of And = 6
place_of Or = 7
place_of Add = 8
place_of Sub = 9
place_of Mul = 10
place_of Div = 11
