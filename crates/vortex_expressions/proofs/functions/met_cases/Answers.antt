use Rattle.std.proofs.Common.{◌∙◌, ◌<◌, sym, ap, subst, length, arith, List}
use Rattle.vortex_logical.specs.declared.operand.Operand.{Operand}
use Rattle.vortex_expressions.specs.Outcomes.{Outcome}
use Rattle.vortex_expressions.specs.Answering.{Gives}
use Rattle.vortex_expressions.specs.Items.{Item}
use Rattle.vortex_expressions.specs.Functions.{met_values}
use Rattle.vortex_expressions.proofs.AlignedCases.{few_values}
use Rattle.vortex_expressions.proofs.functions.met_cases.Goals as goal

pub returns : goal.returns
returns c =
    let few : length c.loop-rest.rest.now < 2 = omega (arith, c.in_default.len_below) in
    subst (λ (o : Outcome Operand). Gives {B = Operand} (λ a. a) c.met_values.result o)
    (ap (λ (is : List Item). met_values c.args.kind.now c.loop-rest.met is)
    (sym (few_values c.loop-rest.rest.now few)) ∙ c.loop-rest.invariant) c.met_values.ensures
