-- When two functions with their options are the same.
use Rattle.std.specs.Prelude.{◌≡◌, ◌≢◌, ◌↔◌, ℕ, List, Bool, IsTrue, ⊤}
use Rattle.vortex_operators.specs.declared.operators.Operator.{Operator}
use Rattle.vortex_operators.specs.declared.between.BetweenOptions.{BetweenOptions}
use Rattle.vortex_like.specs.declared.options.LikeOptions.{LikeOptions}
use Rattle.vortex_interface.specs.Meaning.{Meaning}
use Rattle.vortex_interface.specs.Shipped.{Shipped, Binary, Cast, Between, Like, shipped_id}
use Rattle.vortex_interface.specs.Functions.{Function, ours, custom, function_id}

-- one shipped function with the same options; or two of a caller's with one identity, whose options
-- are equal by their equality E. No shipped function is the same as a caller's
abbrev pub AreSame : {V O : Type 0} → (V → List ℕ) → (O → O → Bool)
    → Function V O → Function V O → Type 0
AreSame id E (ours s) (ours t) = s ≡ t
AreSame id E (custom f o) (custom g p) = (id f ≡ id g) × IsTrue (E o p)
AreSame id E f g = ⊥

-- the content of a shipped function besides its identity
pub data Held : Type 0 where
  operator : Operator → Held
  bounds : BetweenOptions → Held
  like : LikeOptions → Held
  cast : Held
  nothing : Held

abbrev pub held_by : Shipped → Held
held_by (Binary o) = operator o
held_by Cast = cast
held_by (Between o) = bounds o
held_by (Like o) = like o
held_by f = nothing

-- equal options, for a caller's by their equality E; options of a shipped and a caller's function
-- count as equal, so that only their identities distinguish the two
abbrev pub HoldAlike : {V O : Type 0} → (O → O → Bool) → Function V O → Function V O → Type 0
HoldAlike E (ours s) (ours t) = held_by s ≡ held_by t
HoldAlike E (custom f o) (custom g p) = IsTrue (E o p)
HoldAlike E f g = ⊤

-- no caller's function has the identity of a shipped one
abbrev pub IsNeverShipped : {V : Type 0} → (V → List ℕ) → Type 0
IsNeverShipped {V} id = (f : V) (s : Shipped) → id f ≢ shipped_id s

-- then two functions are the same exactly where their identities and their options are equal
abbrev pub SameByIdentityAndOptions : {V O : Type 0} → Meaning V O → (O → O → Bool) → Type 0
SameByIdentityAndOptions {V} {O} m E = IsNeverShipped m.id → (f g : Function V O)
    → AreSame m.id E f g ↔ ((function_id m f ≡ function_id m g) × HoldAlike E f g)
