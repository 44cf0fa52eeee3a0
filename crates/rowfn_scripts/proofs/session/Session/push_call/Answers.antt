use Rattle.std.proofs.Common.{rules, ◌≡◌, ◌∙◌, ◌+◌, ◌-◌, ap, length, arith, refl, map}
use Rattle.std.proofs.Common.{reverse}
use Rattle.vortex_functions.specs.FunctionOf.{function_of}
use Rattle.vortex_functions.specs.Binding.{RefusesCall}
use Rattle.rowfn_lines.specs.Commands.{call}
use Rattle.rowfn_scripts.specs.Sessions.{least_count, StepsTo}
use Rattle.rowfn_scripts.proofs.SessionSteps.{stack_of, printed_of, unsaid, no_function}
use Rattle.rowfn_scripts.proofs.SessionSteps.{no_arguments, call_refused, call_made, same_pushed}
use Rattle.rowfn_scripts.proofs.SessionSteps.{stops}
use Rattle.rowfn_scripts.specs.Stepping.{script_meaning, script_rules}
use Rattle.rowfn_scripts.proofs.session.Session.push_call.Goals as goal

pub returns-in_default : goal.returns-in_default
returns-in_default c =
    let words = map (λ w. w.now) c.args.words.now in
    let known = unsaid c.self.view_is c.is_none.ensures c.if-is_none.false in (
      no_function script_meaning words c.args.escape c.args.self.now known
          c.in_default.ensures,
      refl,
    )

pub returns-then-len-count : goal.returns-then-len-count
returns-then-len-count c =
    let words = map (λ w. w.now) c.args.words.now in
    let items = c.self.inside.stack.items in
    let known = unsaid c.self.view_is c.is_none.ensures c.if-is_none.false in
    let least = c.least_count-count.ensures ∙ ap least_count c.signature.ensures.arity in
    let all : c.len.result ≡ length items = search rules in (
      no_arguments script_meaning words c.args.escape c.args.self.now known
          (function_of c.in-Some.function) c.least_count-count.result items c.in-Some.ensures least
          (stack_of c.self.view_is) (omega (arith, all, c.if-len-count.true)),
      refl,
    )

pub returns-in_err-tree : goal.returns-in_err-tree
returns-in_err-tree c =
    let m = script_meaning in
    let words = map (λ w. w.now) c.args.words.now in
    let s = c.args.self.now in
    let f = function_of c.in-Some.function in
    let n = c.least_count-count.result in
    let items = c.self.inside.stack.items in
    let ts = c.in_ok-children.children.items in
    let k = c.len-2.result - n in
    let known = unsaid c.self.view_is c.is_none.ensures c.if-is_none.false in
    let least = c.least_count-count.ensures ∙ ap least_count c.signature.ensures.arity in
    let all : c.len.result ≡ length items = search rules in
    let all_2 : c.len-2.result ≡ length items = search rules in
    let counted : k + n ≡ length items = omega (arith, all, all_2, c.if-len-count.false) in
    stops (StepsTo m script_rules (call words c.args.escape)) (RefusesCall m f ts) s _
    c.from_residual-in_err-tree.result c.in_err-tree.field-0.0
    (call_refused m words c.args.escape s known f n items c.in-Some.ensures least
    (stack_of c.self.view_is) k ts c.split_off.new.self.items counted
    c.in_ok-children.ensures.tail c.in_ok-children.ensures.items)
    c.from_residual-in_err-tree.ensures.1 c.in_err-tree.ensures (printed_of c.self.view_is)

pub returns : goal.returns
returns c =
    let words = map (λ w. w.now) c.args.words.now in
    let s = c.args.self.now in
    let n = c.least_count-count.result in
    let items = c.self.inside.stack.items in
    let ts = c.in_ok-children.children.items in
    let kept = c.split_off.new.self.items in
    let k = c.len-2.result - n in
    let known = unsaid c.self.view_is c.is_none.ensures c.if-is_none.false in
    let least = c.least_count-count.ensures ∙ ap least_count c.signature.ensures.arity in
    let all : c.len.result ≡ length items = search rules in
    let all_2 : c.len-2.result ≡ length items = search rules in
    let counted : k + n ≡ length items = omega (arith, all, all_2, c.if-len-count.false) in
    same_pushed _ _ s c.in_ok-tree.tree _ (reverse kept) _ c.self.view_is refl refl
    c.in_ok-push.ensures.pushed
    ∙ call_made script_meaning words c.args.escape s known
    (function_of c.in-Some.function) n items c.in-Some.ensures least (stack_of c.self.view_is) k ts
    kept counted c.in_ok-children.ensures.tail c.in_ok-children.ensures.items c.in_ok-tree.tree
    c.in_ok-tree.ensures
