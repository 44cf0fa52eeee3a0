use Rattle.std.proofs.Common.{◌≡◌, ◌<◌, ◌≤◌, ◌∙◌, ◌-◌, ℕ, true, ap, add-one, arith, get_or, length, subst, sym}
use Rattle.std.proofs.Common.{take, take_all}
use Rattle.std.specs.Prelude.{not}
use Rattle.vortex_functions.specs.FunctionOf.{function_of}
use Rattle.vortex_interface.specs.Trees.{children_of, trees_of}
use Rattle.yurkije_lent.specs.Calls.{are_direct_trees}
use Rattle.yurkije_lent.proofs.Served.{no_call, none_deep, other_call, by_children, one_more, one_other}
use Rattle.yurkije_lent.proofs.execute.+part_is_direct.Goals as goal

pub returns-in_default : goal.returns-in_default
returns-in_default t c = sym (no_call c.args.depth c.args.part.tree.now c.in_default.ensures)

pub returns-then-depth-eq0 : goal.returns-then-depth-eq0
returns-then-depth-eq0 t c =
    sym (none_deep c.args.depth c.args.part.tree.now (function_of c.in-Some.function.now) c.if-depth-eq0.true
    c.in-Some.ensures)

pub returns-then-is_none : goal.returns-then-is_none
returns-then-is_none t c =
    sym (other_call c.args.depth c.args.part.tree.now (function_of c.in-Some.function.now) c.in-Some.ensures
    (sym c.direct_call.ensures.served ∙ c.is_none.ensures ∙ ap not c.if-is_none.true))

pub loop-child-preserved : goal.loop-child-preserved
loop-child-preserved t c =
    let kids = children_of c.args.part.tree.now in
    let below = c.args.depth - 1 in
    let k = c.loop-child.child-index in
    let same = c.children-child-items.ensures.children in
    let lt : k < length kids = omega (arith, c.loop-child-test.true, ap length same) in
    let is = c.child-item.is ∙ ap (λ xs. get_or xs k c.child-item.result) same in
    subst (λ (j : ℕ). are_direct_trees below (trees_of (take j kids)) ≡ true) (sym (add-one k))
    (one_more below kids k c.child-item.result c.loop-child.invariant lt is (sym c.if-not-part_is_direct.ensures))

pub returns-then-not-part_is_direct : goal.returns-then-not-part_is_direct
returns-then-not-part_is_direct t c =
    let tree = c.args.part.tree.now in
    let kids = children_of tree in
    let below = c.args.depth - 1 in
    let k = c.loop-child.child-index in
    let same = c.children-child-items.ensures.children in
    let lt : k < length kids = omega (arith, c.loop-child-test.true, ap length same) in
    let is = c.child-item.is ∙ ap (λ xs. get_or xs k c.child-item.result) same in
    let f = function_of c.in-Some.function.now in
    sym (by_children c.args.depth below tree f (omega (arith, c.if-depth-eq0.false)) c.in-Some.ensures
    (sym c.direct_call.ensures.served ∙ c.is_none.ensures ∙ ap not c.if-is_none.false)
    ∙ one_other below kids k c.child-item.result lt is (sym c.if-not-part_is_direct.ensures))

pub returns : goal.returns
returns t c =
    let tree = c.args.part.tree.now in
    let kids = children_of tree in
    let below = c.args.depth - 1 in
    let all : length kids ≤ c.loop-child.child-index =
    omega (arith, c.loop-child-test.false, ap length c.children-child-items.ensures.children) in
    let f = function_of c.in-Some.function.now in
    sym (by_children c.args.depth below tree f (omega (arith, c.if-depth-eq0.false)) c.in-Some.ensures
    (sym c.direct_call.ensures.served ∙ c.is_none.ensures ∙ ap not c.if-is_none.false)
    ∙ subst (λ ts. are_direct_trees below (trees_of ts) ≡ true) (take_all c.loop-child.child-index kids all)
    c.loop-child.invariant)
