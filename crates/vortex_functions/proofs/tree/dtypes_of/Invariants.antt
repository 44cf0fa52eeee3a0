use Rattle.std.proofs.Common.{◌≡◌, map, take, Some}
use Rattle.std.specs.Prelude.{All}
use Rattle.vortex_types.specs.TypeOf.{type_of}
use Rattle.vortex_interface.specs.Trees.{trees_of}
use Rattle.vortex_interface.specs.Eval.{tree_types}
use Rattle.vortex_functions.proofs.tree.dtypes_of.Given as goal

-- the types so far, of well-formed trees
abbrev pub invariant-loop-child : goal.invariant-loop-child
invariant-loop-child g l =
    (tree_types g.C.ScalarFnVTable.meaning
    (trees_of (take l.child-index (map g.L.Leaf.tree_of l.children))) ≡ Some
    (map type_of l.dtypes.items))
    × All g.L.Leaf.whole (take l.child-index l.children)
