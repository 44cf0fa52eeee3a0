-- A decimal is an integer m at a scale s: the number m / 10 ^ s. Two are compared by their products
-- with each other's power, so no rational number is needed.
use Rattle.std.specs.Prelude.{◌≡◌, ◌^◌, ◌-◌, ◌≤◌, ◌<◌, ℕ, ℤ, pos, ◌*ℤ◌, unsigned_abs, nat_lt}
use Rattle.std.specs.Prelude.{if◌then◌else◌, Option, Some, None}
use Rattle.std.specs.Ordering.{int_cmp}
use Rattle.std.specs.declared.cmp.Ordering.{Ordering}
use Rattle.vortex_logical.specs.Digits.{Digits}

-- m * 10 ^ k
abbrev pub shifted : ℤ → ℕ → ℤ
shifted m k = m *ℤ pos (10 ^ k)

-- the order of m / 10 ^ s and n / 10 ^ t
abbrev pub decimal_cmp : ℤ → ℕ → ℤ → ℕ → Ordering
decimal_cmp m s n t = int_cmp (shifted m t) (shifted n s)

-- m / 10 ^ s and n / 10 ^ t are one number
abbrev pub SameDecimal : ℤ → ℕ → ℤ → ℕ → Type 0
SameDecimal m s n t = shifted m t ≡ shifted n s

-- m has at most p digits
abbrev pub HasDigits : ℕ → ℤ → Type 0
HasDigits p m = unsigned_abs m < 10 ^ p

-- the integer, if it has at most p digits
abbrev pub within_digits : ℕ → ℤ → Option ℤ
within_digits p m = if nat_lt (unsigned_abs m) (10 ^ p) then Some m else None

-- the same number at a scale that is no less, if it has digits enough there
abbrev pub rescaled : Digits → Digits → ℤ → Option ℤ
rescaled from to m = within_digits to.precision (shifted m (to.scale - from.scale))

-- a decimal rescaled is the same number
abbrev pub RescalingKeeps : Type 0
RescalingKeeps = (m : ℤ) (s t : ℕ) → s ≤ t → SameDecimal m s (shifted m (t - s)) t

-- two decimals at one scale compare as integers do
abbrev pub RescalingOrders : Type 0
RescalingOrders =
    (m n : ℤ) (s t u : ℕ) → s ≤ u → t ≤ u
    → int_cmp (shifted m (u - s)) (shifted n (u - t)) ≡ decimal_cmp m s n t
