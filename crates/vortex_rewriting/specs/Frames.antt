-- A walk through a tree that rules rewrite: the frames above a place, from the root, each an
-- original node and its first children as they are now.
use Rattle.std.specs.Prelude.{◌≡◌, ◌<◌, ◌≤◌, List, [], ◌∷◌, ◌++◌, Option, Some, None, ⊤, All}
use Rattle.std.specs.Prelude.{map, length, drop, slice_get}
use Rattle.vortex_rewriting.specs.declared.frames.Opened.{Opened}
use Rattle.vortex_interface.specs.Trees.{Tree, children_of}
use Rattle.vortex_interface.specs.Driver.{step}
use Rattle.vortex_rewriting.specs.Places.{with_children}

module _ {V O : Type 0} where
  -- the node on its first children as they are now, and the others unchanged
  abbrev pub partly : Tree V O → List (Tree V O) → Tree V O
  partly t done = with_children t (done ++ drop (length done) (children_of t))

  -- the whole tree, with that tree below the frames
  abbrev pub plug : List (Tree V O × List (Tree V O)) → Tree V O → Tree V O
  plug [] t = t
  plug (f ∷ fs) t = partly f.0 (f.1 ++ plug fs t ∷ [])

  -- that is the next child, or all are done
  abbrev pub IsNext : Tree V O → List (Tree V O) → Option (Tree V O) → Type 0
  IsNext t done None = length (children_of t) ≤ length done
  IsNext t done (Some child) = slice_get (children_of t) (length done) ≡ Some child

  module _ (rule : Tree V O → Option (Tree V O)) where
    -- no rule applies anywhere in these trees
    abbrev pub AreSettled : List (Tree V O) → Type 0
    AreSettled [] = ⊤
    AreSettled (t ∷ ts) = (step rule t ≡ None) × AreSettled ts

    -- everything left of the path to the place is in normal form
    abbrev pub AreFrames : List (Tree V O × List (Tree V O)) → Type 0
    AreFrames [] = ⊤
    AreFrames (f ∷ fs) = AreSettled f.1 × (length f.1 < length (children_of f.0)) × AreFrames fs

module _ {T : Type 0} where
  -- the frames as code has them, as trees
  abbrev pub frames_in : {V O : Type 0} → (T → Tree V O) → List (Opened T)
      → List (Tree V O × List (Tree V O))
  frames_in tree fs = map (λ f. (tree f.node, map tree f.done.items)) fs

  -- each tree in them has that context: a row count, or none
  abbrev pub HaveRows : {B : Type 0} → (T → B) → B → List (Opened T) → Type 0
  HaveRows rows n fs = All (λ f. (rows f.node ≡ n) × All (λ t. rows t ≡ n) f.done.items) fs
