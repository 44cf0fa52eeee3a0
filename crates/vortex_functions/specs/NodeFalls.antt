-- Each child has fewer nodes than its parent.
use Rattle.std.specs.Prelude.{◌≡◌, ◌≤◌, max}
use Rattle.std.proofs.Common.{arith, ap}
use Rattle.vortex_functions.specs.declared.tree.Node.{Node}
use Rattle.vortex_functions.specs.declared.tree.Node.TheVariants.{Leaf, Call}
use Rattle.vortex_functions.specs.declared.tree.Tree.TheDeep.{deep-Node}
use Rattle.vortex_functions.specs.declared.tree.leaf.Leaf.{Ghosts}
use Rattle.vortex_interface.specs.Trees.{Tree, node_count}
use Rattle.vortex_functions.specs.Nodes.{node_tree, most_le-nodes_count}

pub deep_le-node_count : (V L O B S : Type 0) (a : _) (b : _) (c : _) (d : _) (e : _) (f : _)
    (g : _) (l : Ghosts L V O B S) (n : Node V L O B S) (t : Tree V O)
    → t ≡ node_tree l.tree_of l.seen n
    → max (deep-Node V L O B S a b c d e f g l n) 0 ≤ node_count t
deep_le-node_count V L O B S a b c d e f g l (Leaf x) t is = omega arith
deep_le-node_count V L O B S a b c d e f g l (Call parts) t is =
    omega (arith, ap node_count is, most_le-nodes_count l.tree_of parts.value.children.items)
