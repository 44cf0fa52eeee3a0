use Rattle.std.proofs.Common.{sym, subst, map, List}
use Rattle.vortex_expressions.specs.Answering.{Gives}
use Rattle.vortex_expressions.specs.Items.{Item, item_in}
use Rattle.vortex_expressions.specs.Outcomes.{Outcome}
use Rattle.vortex_expressions.proofs.Settling.{first_operand}
use Rattle.vortex_expressions.specs.Calls.{conditions_of}
use Rattle.vortex_expressions.specs.declared.item.Item as held
use Rattle.vortex_expressions.proofs.cases.conditions_of.Goals as goal

pub returns-in-len1-up : goal.returns-in-len1-up
returns-in-len1-up c =
    let h = c.args.has_operand in
    let found = first_operand h c.as_slice.result.now c.operand-item.result
    c.if-not-has_operand.false c.in-len1-up.len_at_least c.operand-item.is in
    subst (λ (xs : List held.Item). Gives {B = List Item} (λ is. map item_in is.items)
    c.equal_cases.result (conditions_of h (map item_in xs))) c.as_slice.ensures.value
    (subst (λ (o : Outcome (List Item)). Gives {B = List Item} (λ is. map item_in is.items)
    c.equal_cases.result o) (sym found) c.equal_cases.ensures)
