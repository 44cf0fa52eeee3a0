use Rattle.std.proofs.Common.{◌≡◌, suc, arith}
use Rattle.vortex_expressions.specs.Calls.{listed_item}
use Rattle.vortex_expressions.specs.Stacks.{stack_in, with_last}
use Rattle.vortex_expressions.proofs.Lasts.{last_made, last_stopped}
use Rattle.vortex_expressions.proofs.Stopping.{handed_on, given_as}
use Rattle.vortex_expressions.proofs.binder.Stack.list.Goals as goal

pub returns-in_err-listed_item : goal.returns-in_err-listed_item
returns-in_err-listed_item c =
    let st = stack_in c.args.self.now.items.items in
    let f = listed_item c.args.negated in
    let more : suc c.args.count ≡ c.in-Some.taken = omega (arith, c.in-Some.ensures) in
    handed_on _ (with_last f (suc c.args.count) st) _ _
    c.from_residual-in_err-listed_item.ensures.1
    (last_stopped f c.in-Some.taken (suc c.args.count) st _ _ more c.in_ok-items.ensures _
    c.in_err-listed_item.ensures)

pub returns : goal.returns
returns c =
    let st = stack_in c.args.self.now.items.items in
    let f = listed_item c.args.negated in
    let more : suc c.args.count ≡ c.in-Some.taken = omega (arith, c.in-Some.ensures) in
    given_as _ _ (with_last f (suc c.args.count) st) c.push.result
    (last_made f c.in-Some.taken (suc c.args.count) st _ _ more c.in_ok-items.ensures _
    c.in_ok-listed_item.ensures) c.push.ensures
