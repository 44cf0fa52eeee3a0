-- A sequence of trees and a list of them.
use Rattle.std.proofs.Common.{◌≡◌, refl, ap, List, [], ◌∷◌}
use Rattle.vortex_interface.specs.Trees.{Tree, trees_of, list_of}

pub list_of-trees_of : {V O : Type 0} (ts : List (Tree V O)) → list_of (trees_of ts) ≡ ts
list_of-trees_of [] = refl
list_of-trees_of (t ∷ ts) = ap (λ xs. t ∷ xs) (list_of-trees_of ts)

pub ruleset round_trips = (list_of-trees_of)
