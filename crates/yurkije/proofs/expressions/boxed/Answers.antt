use Rattle.std.proofs.Common.{Some, ap, ◌∙◌}
use Rattle.yurkije.proofs.expressions.boxed.Goals as goal

pub returns : goal.returns
returns c = record {
  expression = c.in_ok-expression.expression;
  program = c.in_ok-expression.ensures.0;
  read = c.in_ok-expression.ensures.1;
  there = ap Some (c.in_ok-new.ensures.ok ∙ c.of_expression.ensures);
}
