-- Values that are converted to the kind in which they meet are in the order of the values.
use Rattle.std.specs.Prelude.{◌≡◌, ◌+◌, ◌-◌, ◌≤◌, max, ℤ, Some}
use Rattle.std.specs.Ordering.{int_cmp}
use Rattle.std.specs.Float.{binary32, binary64}
use Rattle.vortex_logical.specs.Digits.{Digits, AreDigits}
use Rattle.vortex_logical.specs.Decimals.{decimal_cmp, shifted, HasDigits, rescaled}
use Rattle.vortex_logical.specs.FloatKeys.{key_of_float, float_of_key}
use Rattle.vortex_logical.specs.Cells.{IsKey}
use Rattle.vortex_logical.specs.CommonKinds.{common_digits}

-- two decimals, each with the common digits, compare as integers do
abbrev pub CommonDigitsOrder : Type 0
CommonDigitsOrder =
    (a b : Digits) (m n u v : ℤ) → rescaled a (common_digits a b) m ≡ Some u
    → rescaled b (common_digits a b) n ≡ Some v → int_cmp u v ≡ decimal_cmp m a.scale n b.scale

-- where 18 digits are enough for both, each decimal is held
abbrev pub CommonDigitsHold : Type 0
CommonDigitsHold =
    (a b : Digits) (m : ℤ) → AreDigits a → HasDigits a.precision m
    → max (a.precision - a.scale) (b.precision - b.scale) + max a.scale b.scale ≤ 18
    → rescaled a (common_digits a b) m
    ≡ Some (shifted m ((common_digits a b).scale - a.scale))

-- the integer of the same float of 64 bits
abbrev pub wide_key : ℤ → ℤ
wide_key z = key_of_float binary64 (float_of_key binary32 z)

-- floats of 32 bits compare as those of 64 bits
abbrev pub WideKeysAreOrdered : Type 0
WideKeysAreOrdered =
    (y z : ℤ) → IsKey binary32 y → IsKey binary32 z
    → int_cmp (wide_key y) (wide_key z) ≡ int_cmp y z
