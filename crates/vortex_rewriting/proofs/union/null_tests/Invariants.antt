use Rattle.std.proofs.Common.{◌≡◌, map, take}
use Rattle.vortex_interface.specs.Trees.{trees_of, children_of}
use Rattle.vortex_interface.specs.ValidityRules.{null_tests}
use Rattle.vortex_rewriting.specs.Contexts.{tree_by}
use Rattle.vortex_rewriting.specs.Union.{AreTruths}
use Rattle.vortex_rewriting.proofs.union.null_tests.Given as goal

-- the tests of the children so far
abbrev pub invariant-loop-index : goal.invariant-loop-index
invariant-loop-index g l =
    let m = g.C.ScalarFnVTable.meaning in
    let seen = g.T.ReduceTree.seen in
    (map (tree_by seen) l.tests.items
    ≡ null_tests m (trees_of (take l.index (children_of (seen l.node).tree))))
    × AreTruths m seen (seen l.node).context l.tests.items
