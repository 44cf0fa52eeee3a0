use Rattle.std.proofs.Common.{arith, ap, sym, ◌∙◌, map, take}
use Rattle.vortex_expressions.specs.Outcomes.{answers}
use Rattle.vortex_expressions.specs.Items.{item_in}
use Rattle.vortex_expressions.specs.Stacks.{stack_in}
use Rattle.vortex_expressions.proofs.Lasts.{last_of}
use Rattle.vortex_expressions.proofs.binder.Stack.take.Goals as goal

pub returns-in_ok-split_off-in-Some : goal.returns-in_ok-split_off-in-Some
returns-in_ok-split_off-in-Some c =
    let items = c.args.self.now.items in
    let kept = c.in-Some.kept in
    let taken = c.in_ok-split_off-in-Some.field-0 in
    let cut = c.in_ok-split_off-in-Some.ensures in
    last_of items.items kept c.args.count (omega (arith, c.in-Some.ensures, c.len.ensures, items.ok.0))
    ∙ ap (λ is. answers (map item_in is, stack_in (take kept items.items))) (sym cut.tail)
    ∙ ap (λ is. answers (map item_in taken.items, stack_in is)) (sym cut.items)
