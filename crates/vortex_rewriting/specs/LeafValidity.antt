-- The validity of a leaf.
use Rattle.std.specs.Prelude.{◌≡◌, Option, None}
use Rattle.std.specs.Option.{option_map}
use Rattle.vortex_interface.specs.Meaning.{Meaning}
use Rattle.vortex_interface.specs.Trees.{Tree, called, literal}
use Rattle.vortex_interface.specs.Rules.{Rules}
use Rattle.vortex_interface.specs.ValidityRules.{validity}

-- for a leaf that is no constant the result is its validity, whatever a caller's rules are
abbrev pub IsLeafValidity : {V O N : Type 0} → Meaning V O → (N → Tree V O) → Tree V O → Option N
    → Type 0
IsLeafValidity {V} {O} m tree t answer =
    called t ≡ None → literal t ≡ None → (r : Rules V O) → option_map tree answer ≡ validity m r t
