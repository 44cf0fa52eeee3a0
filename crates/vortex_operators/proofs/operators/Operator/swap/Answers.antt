use Rattle.std.specs.Prelude.{refl}
use Rattle.vortex_operators.specs.declared.operators.Operator.TheVariants.{Eq, NotEq, Gt, Gte, Lt}
use Rattle.vortex_operators.specs.declared.operators.Operator.TheVariants.{Lte, And, Or, Add, Mul}
use Rattle.vortex_operators.specs.SwapLaws.{turned}
use Rattle.vortex_operators.proofs.operators.Operator.swap.Goals as goal

pub returns-in-Eq-clause-turns : goal.returns-in-Eq-clause-turns
returns-in-Eq-clause-turns c = rw c.in-Eq.is (turned Eq Eq refl)

pub returns-in-NotEq-clause-turns : goal.returns-in-NotEq-clause-turns
returns-in-NotEq-clause-turns c = rw c.in-NotEq.is (turned NotEq NotEq refl)

pub returns-in-Gt-clause-turns : goal.returns-in-Gt-clause-turns
returns-in-Gt-clause-turns c = rw c.in-Gt.is (turned Gt Lt refl)

pub returns-in-Gte-clause-turns : goal.returns-in-Gte-clause-turns
returns-in-Gte-clause-turns c = rw c.in-Gte.is (turned Gte Lte refl)

pub returns-in-Lt-clause-turns : goal.returns-in-Lt-clause-turns
returns-in-Lt-clause-turns c = rw c.in-Lt.is (turned Lt Gt refl)

pub returns-in-Lte-clause-turns : goal.returns-in-Lte-clause-turns
returns-in-Lte-clause-turns c = rw c.in-Lte.is (turned Lte Gte refl)

pub returns-in-And-clause-turns : goal.returns-in-And-clause-turns
returns-in-And-clause-turns c = rw c.in-And.is (turned And And refl)

pub returns-in-Or-clause-turns : goal.returns-in-Or-clause-turns
returns-in-Or-clause-turns c = rw c.in-Or.is (turned Or Or refl)

pub returns-in-Add-clause-turns : goal.returns-in-Add-clause-turns
returns-in-Add-clause-turns c = rw c.in-Add.is (turned Add Add refl)

pub returns-in-Mul-clause-turns : goal.returns-in-Mul-clause-turns
returns-in-Mul-clause-turns c = rw c.in-Mul.is (turned Mul Mul refl)
