use Rattle.std.proofs.Common.{◌≡◌, ◌∙◌, ap, sym, subst, ℕ, ◌≤◌, List, ◌∷◌, ◌++◌}
use Rattle.std.proofs.Common.{reverse}
use Rattle.std.proofs.Common.{string_bytes}
use Rattle.vortex_interface.specs.Weights.{weight_told}
use Rattle.rowfn_scripts.specs.Sessions.{Step, OptimizesTop}
use Rattle.rowfn_scripts.proofs.SessionSteps.{unsaid, stack_of, popped, same_optimized}
use Rattle.rowfn_scripts.proofs.SessionSteps.{top_optimized}
use Rattle.rowfn_scripts.specs.Stepping.{script_meaning, script_rules}
use Rattle.rowfn_scripts.proofs.session.Session.optimize.Goals as goal

pub returns : goal.returns
returns c =
    let m = script_meaning in
    let rs = script_rules in
    let s = c.args.self.now in
    let old = c.in-Some.old in
    let o = c.in_ok-tree.field-0 in
    let kept = c.pop.new.self.items in
    let text = string_bytes c.in_ok-text.text in
    let known = unsaid c.self.view_is c.is_none.ensures c.if-is_none.false in
    let top : s.stack ≡ old ∷ reverse kept =
    sym (stack_of c.self.view_is)
    ∙ popped c.self.inside.stack.items kept old c.in-Some.ensures.items in
    let limit : c.weight.result ≡ weight_told m old = c.weight.ensures.told in
    let most : o.steps ≤ weight_told m old =
    subst (λ (n : ℕ). o.steps ≤ n) limit c.in_ok-tree.ensures.limited in
    let made =
    top_optimized m rs s old o.tree (reverse kept) o.steps o.done known top
    c.in_ok-tree.ensures.run most c.in_ok-tree.ensures.done
    (λ h. c.in_ok-tree.ensures.stopped h ∙ limit) text c.in_ok-text.ensures in
    let printed = c.in_ok-extend_from_slice.ensures.items
    ∙ ap (λ (b : List ℕ). c.self.inside.out.items ++ b) c.as_bytes.ensures.value in
    let same =
    same_optimized _ s o.tree kept c.push.new.self.items c.extend_from_slice.new.self.items text
    c.self.view_is c.in_ok-push.ensures.items printed in
    subst (λ (r : Step _ _). OptimizesTop m rs s.row_count s.stack s r) (sym same) made
