-- How many digits a decimal has.
use Rattle.std.specs.Prelude.{ℕ, ◌≤◌}

-- at most `precision` digits, of which the last `scale` stand after the point
pub record Digits : Type 0 where
  pub precision : ℕ
  pub scale : ℕ

-- an integer of 64 bits holds 18 digits
abbrev pub AreDigits : Digits → Type 0
AreDigits d = (1 ≤ d.precision) × (d.precision ≤ 18) × (d.scale ≤ d.precision)

abbrev pub digits_of : ℕ → ℕ → Digits
digits_of p s = record { precision = p; scale = s }
