use Rattle.std.proofs.Common.{◌≡◌, map, take}
use Rattle.std.specs.Cow.{cow_value}
use Rattle.vortex_rewriting.proofs.tree_node.copies_of.Given as goal

-- the copies so far
abbrev pub invariant-loop-node : goal.invariant-loop-node
invariant-loop-node g l =
    l.copies.items ≡ map (λ n. cow_value n.tree) (take l.node-index l.nodes)
