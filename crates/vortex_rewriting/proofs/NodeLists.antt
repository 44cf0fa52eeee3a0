-- The trees of nodes, and copies of them.
use Rattle.std.proofs.Common.{◌≡◌, List, map, ap, subst, ◌∙◌}
use Rattle.std.specs.Cow.{cow_value}
use Rattle.std.proofs.lemmas.Simd.{map-map}
use Rattle.vortex_errors.specs.Answers.{UnlessMemory}
use Rattle.vortex_errors.specs.declared.error.VortexError.{VortexError}
use Rattle.vortex_interface.specs.Meaning.{Meaning}
use Rattle.vortex_interface.specs.Functions.{Function}
use Rattle.vortex_interface.specs.Trees.{Tree}
use Rattle.vortex_functions.specs.Binding.{RefusesCall}
use Rattle.vortex_rewriting.specs.declared.tree_node.TreeReduceNode.{TreeReduceNode}

pub trees_of_copies : {A B : Type 0} (tree : A → B) (nodes : List (TreeReduceNode A))
    (copies : List A) → copies ≡ map (λ n. cow_value n.tree) nodes
    → map tree copies ≡ map (λ n. tree (cow_value n.tree)) nodes
trees_of_copies tree nodes copies is =
    ap (map tree) is ∙ map-map tree (λ n. cow_value n.tree) nodes

-- a call on the copies fails like one on the nodes' trees
pub refused_as_copies : {V O A : Type 0} (m : Meaning V O) (f : Function V O) (tree : A → Tree V O)
    (nodes : List (TreeReduceNode A)) (copies : List A) (e : VortexError)
    → copies ≡ map (λ n. cow_value n.tree) nodes
    → UnlessMemory (RefusesCall m f (map tree copies)) e
    → UnlessMemory (RefusesCall m f (map (λ n. tree (cow_value n.tree)) nodes)) e
refused_as_copies m f tree nodes copies e is h =
    subst (λ ts. UnlessMemory (RefusesCall m f ts) e) (trees_of_copies tree nodes copies is) h
