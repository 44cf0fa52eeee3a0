use Rattle.std.proofs.Common.{◌≡◌, ◌+◌, map, take}
use Rattle.vortex_rewriting.specs.Contexts.{tree_by}
use Rattle.vortex_rewriting.specs.Union.{AreTruths, pairs_of}
use Rattle.vortex_rewriting.proofs.union.pairs_of.Given as goal

-- the pairs of the tests so far
abbrev pub invariant-loop-pair : goal.invariant-loop-pair
invariant-loop-pair g l =
    let m = g.C.ScalarFnVTable.meaning in
    let seen = g.T.ReduceTree.seen in
    (map (tree_by seen) l.joined.items
    ≡ pairs_of (take (l.pair + l.pair) (map (tree_by seen) l.tests)))
    × AreTruths m seen (seen l.node).context l.joined.items
