use Rattle.std.proofs.Common.{◌≡◌, map, vec_len}
use Rattle.vortex_interface.specs.ValidityRules.{all_of}
use Rattle.vortex_rewriting.specs.Contexts.{tree_by}
use Rattle.vortex_rewriting.specs.Union.{AreTruths}
use Rattle.vortex_rewriting.proofs.union.all_of.Given as goal

-- what is left in the end stays the same
abbrev pub invariant-loop-tests : goal.invariant-loop-tests
invariant-loop-tests g l =
    let m = g.C.ScalarFnVTable.meaning in
    let seen = g.T.ReduceTree.seen in
    (all_of (map (tree_by seen) l.tests.items)
    ≡ all_of (map (tree_by seen) l.fn.tests.items))
    × AreTruths m seen (seen l.node).context l.tests.items

abbrev pub decreases-loop-tests : goal.decreases-loop-tests
decreases-loop-tests g l = vec_len l.tests
