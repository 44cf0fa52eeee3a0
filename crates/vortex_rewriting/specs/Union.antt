-- How nodes are joined by And in rounds.
use Rattle.std.specs.Prelude.{◌≡◌, List, [], ◌∷◌, Some, false}
use Rattle.std.specs.List.{All}
use Rattle.vortex_types.specs.LogicalTypes.{bool_type}
use Rattle.vortex_operators.specs.declared.operators.Operator.TheVariants.{And}
use Rattle.vortex_interface.specs.Meaning.{Meaning}
use Rattle.vortex_interface.specs.Trees.{Tree}
use Rattle.vortex_interface.specs.Eval.{tree_type}
use Rattle.vortex_interface.specs.ComparisonTrees.{operated}
use Rattle.vortex_rewriting.specs.Contexts.{InContext}

-- nodes of Bool without null, in that context
abbrev pub AreTruths : {V O B N : Type 0} → Meaning V O → (N → InContext V O B) → B → List N → Type 0
AreTruths m seen n nodes =
    All (λ node. (tree_type m (seen node).tree ≡ Some (bool_type false))
    × ((seen node).context ≡ n)) nodes

-- neighbours joined, paired from the left; an odd last one is left out
abbrev pub pairs_of : {V O : Type 0} → List (Tree V O) → List (Tree V O)
pairs_of [] = []
pairs_of (t ∷ []) = []
pairs_of (t ∷ u ∷ ts) = operated And t u ∷ pairs_of ts

-- one more tree, as the right operand with the last; or alone if there is none
abbrev pub joined_last : {V O : Type 0} → List (Tree V O) → Tree V O → List (Tree V O)
joined_last [] last = last ∷ []
joined_last (t ∷ []) last = operated And t last ∷ []
joined_last (t ∷ u ∷ ts) last = t ∷ joined_last (u ∷ ts) last
