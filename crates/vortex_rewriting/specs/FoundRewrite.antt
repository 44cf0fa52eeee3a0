-- The result of a search for the next place.
use Rattle.std.specs.Prelude.{◌≡◌, Option, Some, None}
use Rattle.vortex_rewriting.specs.declared.driver.FoundRewrite.{FoundRewrite}
use Rattle.vortex_rewriting.specs.declared.driver.FoundRewrite.TheVariants.{Settled, Place}
use Rattle.vortex_interface.specs.Trees.{Tree}
use Rattle.vortex_interface.specs.Driver.{step}
use Rattle.vortex_rewriting.specs.Frames.{plug, AreFrames, frames_in, HaveRows}

-- the tree is in normal form, or its step is that at the place
abbrev pub IsFound : {T V O : Type 0} → (Tree V O → Option (Tree V O)) → (T → Tree V O) → Tree V O
    → FoundRewrite T → Type 0
IsFound rule tree t (Settled whole) = (t ≡ tree whole) × (step rule t ≡ None)
IsFound rule tree t (Place above old made) =
    AreFrames rule (frames_in tree above.items)
    × (t ≡ plug (frames_in tree above.items) (tree old))
    × (step rule (tree old) ≡ Some (tree made))

-- each tree in it has that context
abbrev pub FoundHasRows : {T B : Type 0} → (T → B) → B → FoundRewrite T → Type 0
FoundHasRows rows n (Settled whole) = rows whole ≡ n
FoundHasRows rows n (Place above old made) =
    HaveRows rows n above.items × (rows old ≡ n) × (rows made ≡ n)
