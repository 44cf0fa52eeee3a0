use Rattle.std.proofs.Common.{map, add-one, ap, sym, subst, ◌∙◌, arith}
use Rattle.std.specs.Prelude.{All, Some}
use Rattle.std.proofs.lemmas.List.{map-append, take_all}
use Rattle.vortex_types.specs.TypeOf.{type_of}
use Rattle.vortex_functions.proofs.TreeCalls.{all_more, types_one_more}
use Rattle.vortex_functions.proofs.tree.dtypes_of.Goals as goal

pub loop-child-preserved : goal.loop-child-preserved
loop-child-preserved g c = (
  rw (c.in_ok-push.ensures.items, map-append, add-one)
      (types_one_more g.L.Leaf.tree_of g.C.ScalarFnVTable.meaning c.args.children.now
      (map type_of c.loop-child.dtypes.items) c.loop-child.child-index c.child-item.result _
      c.loop-child.invariant.0 c.loop-child-test.true c.child-item.is
      (c.dtype.ensures.dtype ∙ ap Some (sym c.in_ok-try_clone.ensures))),
  rw add-one
      (all_more g.L.Leaf.whole c.args.children.now c.loop-child.child-index c.child-item.result
      c.loop-child.invariant.1 c.loop-child-test.true c.child-item.is c.dtype.ensures.typed),
)

pub returns-clause-whole : goal.returns-clause-whole
returns-clause-whole g c =
    subst (All g.L.Leaf.whole)
    (take_all c.loop-child.child-index c.args.children.now (omega (arith, c.loop-child-test.false)))
    c.loop-child.invariant.1
