use Rattle.vortex_operators.specs.declared.operators.CompareOperator.TheVariants.{Eq, NotEq, Gt}
use Rattle.vortex_operators.specs.declared.operators.CompareOperator.TheVariants.{Gte, Lt, Lte}
use Rattle.vortex_operators.specs.ComparisonLaws.{are_swapped}
use Rattle.vortex_operators.proofs.operators.CompareOperator.swap.Goals as goal

pub returns-in-Eq-clause-turns : goal.returns-in-Eq-clause-turns
returns-in-Eq-clause-turns c = rw c.in-Eq.is (are_swapped Eq)

pub returns-in-NotEq-clause-turns : goal.returns-in-NotEq-clause-turns
returns-in-NotEq-clause-turns c = rw c.in-NotEq.is (are_swapped NotEq)

pub returns-in-Gt-clause-turns : goal.returns-in-Gt-clause-turns
returns-in-Gt-clause-turns c = rw c.in-Gt.is (are_swapped Gt)

pub returns-in-Gte-clause-turns : goal.returns-in-Gte-clause-turns
returns-in-Gte-clause-turns c = rw c.in-Gte.is (are_swapped Gte)

pub returns-in-Lt-clause-turns : goal.returns-in-Lt-clause-turns
returns-in-Lt-clause-turns c = rw c.in-Lt.is (are_swapped Lt)

pub returns-in-Lte-clause-turns : goal.returns-in-Lte-clause-turns
returns-in-Lte-clause-turns c = rw c.in-Lte.is (are_swapped Lte)
