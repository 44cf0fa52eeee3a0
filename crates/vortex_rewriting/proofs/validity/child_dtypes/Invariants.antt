use Rattle.std.proofs.Common.{◌≡◌, Some, map, take}
use Rattle.std.specs.Option.{option_map}
use Rattle.vortex_types.specs.TypeOf.{type_of}
use Rattle.vortex_interface.specs.Trees.{trees_of, children_of}
use Rattle.vortex_interface.specs.Eval.{tree_types}
use Rattle.vortex_interface.specs.ValidityRules.{without_null}
use Rattle.vortex_rewriting.proofs.validity.child_dtypes.Given as goal

-- the types so far
abbrev pub invariant-loop-index : goal.invariant-loop-index
invariant-loop-index g l =
    let children = children_of (g.T.ReduceTree.seen l.node).tree in
    option_map without_null
    (tree_types g.C.ScalarFnVTable.meaning (trees_of (take l.index children)))
    ≡ Some (map type_of l.dtypes.items)
