-- What is counted of a reader that is watched.
use Rattle.std.specs.Prelude.{ℕ, ◌+◌, ◌-◌, ◌^◌, min, Result, Ok, Err}

-- the count of what was read, one read more; it stays at the greatest
abbrev pub counted : {E : Type 0} → ℕ → Result ℕ E → ℕ
counted bytes (Ok n) = min (bytes + n) (2 ^ 64 - 1)
counted bytes (Err e) = bytes
