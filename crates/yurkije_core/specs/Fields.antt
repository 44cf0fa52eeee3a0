-- The numbers of the fields that are marked.
use Rattle.std.specs.Prelude.{ℕ, suc, List, [], ◌∷◌, Bool, true, false}

-- the places of the marks that are set, ascending, where the first is at place k
abbrev pub marked_places : ℕ → List Bool → List ℕ
marked_places k [] = []
marked_places k (true ∷ marks) = k ∷ marked_places (suc k) marks
marked_places k (false ∷ marks) = marked_places (suc k) marks
