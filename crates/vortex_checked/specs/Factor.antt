-- The numbers whose product with a factor a type holds.
use Rattle.std.specs.Prelude.{◌↔◌, ℤ, ◌*ℤ◌}
use Rattle.vortex_checked.specs.Exact.{IsWithin}

-- a number of the type is between the two ends exactly where the type holds its product
abbrev pub AreEnds : (least greatest factor low high : ℤ) → Type 0
AreEnds least greatest factor low high =
    (x : ℤ) → IsWithin least greatest x → IsWithin low high x ↔ IsWithin least greatest (x *ℤ factor)
