-- The integers of dates and of floats of 32 bits fit 32 bits.
use Rattle.std.proofs.Common.{◌≡◌, ◌<◌, ◌-◌, ℕ, ℤ, pos, Bool, true, false, arith, sym, subst, refl, FitsSigned, w32}
use Rattle.std.specs.Prelude.{neg_ℤ, nat_le, if◌then◌else◌}
use Rattle.std.proofs.lemmas.Int.{ints}
use Rattle.jiff_core.proofs.SignedLemmas.{signed_arith, fits_between}
use lib.Ieee.{binary32, to_bits}
use lib.Ieee.Bits.{to_bits-lt}
use Rattle.vortex_logical.specs.DateTexts.{IsDated, DatedDays}
use Rattle.vortex_logical.specs.FloatKeys.{key_of_bits}
use Rattle.vortex_logical.specs.Cells.{IsKey}

pub day_fits : DatedDays → (z : ℤ) → IsDated z → FitsSigned w32 z
day_fits days z h =
    let b = (days z).0 h in
    fits_between w32 z (omega (arith, signed_arith, b.0, b.1), omega (arith, signed_arith, b.0, b.1))

small : (b : ℕ) → nat_le 2147483648 b ≡ false → b < 2147483648
small b e = grind (arith, e)

bits_fit : (b : ℕ) → b < 4294967296 → FitsSigned w32 (key_of_bits binary32 b)
bits_fit b h = by (nat_le 2147483648 b) refl
  where
    by : (c : Bool) → nat_le 2147483648 b ≡ c → FitsSigned w32 (if c then neg_ℤ (pos (b - 2147483648)) else pos b)
    by true e = record { sfits = omega (arith, signed_arith, ints, h) }
    by false e = record { sfits = omega (arith, signed_arith, ints, small b e) }

pub key_fits : (z : ℤ) → IsKey binary32 z → FitsSigned w32 z
key_fits z h = subst (FitsSigned w32) (sym h.2) (bits_fit (to_bits binary32 h.0) (to_bits-lt binary32 h.0 h.1))
