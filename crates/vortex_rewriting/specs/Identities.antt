-- Identities of callers' functions.
use Rattle.std.specs.Prelude.{◌≡◌, ◌≢◌, ℕ, List, get_or, refl, true, false}
use Rattle.vortex_interface.specs.Shipped.{Shipped, Binary, NullTest, shipped_id}

-- not the identity of a shipped function
abbrev pub IsOwnIdentity : List ℕ → Type 0
IsOwnIdentity id = (s : Shipped) → id ≢ shipped_id s

-- the identity of a shipped function begins as `vortex` does
pub first_letter : (s : Shipped) → get_or (shipped_id s) 0 0 ≡ 118
first_letter (Binary op) = refl
first_letter (NullTest false) = refl
first_letter (NullTest true) = refl
first_letter s = refl
