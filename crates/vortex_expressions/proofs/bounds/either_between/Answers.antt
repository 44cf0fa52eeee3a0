use Rattle.std.proofs.Common.{◌∷◌, [], None, sym, subst}
use Rattle.vortex_operators.specs.declared.operators.Operator.TheVariants as operator
use Rattle.vortex_interface.specs.Shipped.{Binary}
use Rattle.vortex_interface.specs.Functions.{ours}
use Rattle.vortex_expressions.specs.Outcomes.{Outcome, and_then}
use Rattle.vortex_expressions.specs.Items.{Item, Tree, bound, called, item_in}
use Rattle.vortex_expressions.specs.Calls.{between_three}
use Rattle.vortex_expressions.specs.Answering.{StopsBy, Gives}
use Rattle.vortex_expressions.proofs.Stopping.{stops_first, handed_on}
use Rattle.vortex_expressions.proofs.bounds.either_between.Goals as goal

pub returns-in_err-second : goal.returns-in_err-second
returns-in_err-second c =
    let a = item_in c.args.item in
    let low = item_in c.args.lower in
    let high = item_in c.args.upper in
    let turned : Outcome Tree = between_three a high low in
    let either : Tree → Tree → Outcome Tree = λ t u.
    called (ours (Binary operator.Or)) None (bound t ∷ bound u ∷ []) in
    let stops = λ (o : Outcome Tree). StopsBy o c.in_err-second.field-0.0 in
    let first = subst (λ (i : Item). stops (between_three i (item_in c.in_ok-high.high)
    (item_in c.in_ok-low.low))) c.in_ok-operand.ensures c.in_err-second.ensures in
    let second = subst (λ (i : Item). stops (between_three a i (item_in c.in_ok-low.low)))
    c.in_ok-high.ensures first in
    let h = subst (λ (i : Item). stops (between_three a high i)) c.in_ok-low.ensures second in
    subst (λ (o : Outcome Tree). Gives {B = Tree} (λ t. t) c.from_residual-in_err-second.result
    (and_then o (λ t. and_then turned (either t)))) (sym c.in_ok-first.ensures)
    (handed_on (λ (t : Tree). t) _ _ _ c.from_residual-in_err-second.ensures.1
    (stops_first turned (either c.in_ok-first.first) _ h))
