use Rattle.std.proofs.Common.{◌<◌, ◌≤◌, ◌∙◌, ap, add-one, arith, length, map, refl, subst, sym}
use Rattle.std.proofs.Common.{take, take_all, get_or, ℕ}
use Rattle.vortex_types.specs.TypeOf.{type_of}
use Rattle.vortex_interface.specs.Execution.{AllLeavesFit}
use Rattle.vortex_interface.specs.Trees.{children_of, trees_of}
use Rattle.vortex_standard.specs.Standard.{standard_meaning}
use Rattle.yurkije_columns.specs.Batches.{batch_column}
use Rattle.yurkije_lent.proofs.CallRows.{fit_more}
use Rattle.yurkije_lent.proofs.Leaves.{fits_call, fits_leaf}
use Rattle.yurkije_lent.proofs.execute.+part_fits.Goals as goal

pub returns-in-Some : goal.returns-in-Some
returns-in-Some t c = λ whole n.
    fits_leaf (map (batch_column n) c.args.columns.now) standard_meaning c.args.part.tree.now
    c.in-Some.place (type_of c.dtype.result.now) c.in-Some.ensures c.dtype.ensures.dtype
    (c.has_column.ensures whole n)

pub loop-child-preserved : goal.loop-child-preserved
loop-child-preserved t c = λ n.
    let kids = children_of c.args.part.tree.now in
    let cs = map (batch_column n) c.args.columns.now in
    let k = c.loop-child.child-index in
    let same = c.children-child-items.ensures.children in
    let lt : k < length kids = omega (arith, c.loop-child-test.true, ap length same) in
    let is = c.child-item.is ∙ ap (λ xs. get_or xs k c.child-item.result) same in
    subst (λ (j : ℕ). AllLeavesFit cs (trees_of (take j kids))) (sym (add-one k))
    (fit_more standard_meaning cs kids k c.child-item.result (c.loop-child.invariant n) lt is
    (c.if-not-part_fits.ensures refl n))

pub returns : goal.returns
returns t c = λ whole n.
    let tree = c.args.part.tree.now in
    let all : length (children_of tree) ≤ c.loop-child.child-index =
    omega (arith, c.loop-child-test.false, ap length c.children-child-items.ensures.children) in
    fits_call (map (batch_column n) c.args.columns.now) tree c.in_default.ensures
    (subst (λ ts. AllLeavesFit (map (batch_column n) c.args.columns.now) (trees_of ts))
    (take_all c.loop-child.child-index (children_of tree) all) (c.loop-child.invariant n))
