-- How many looks the matcher's walk takes: the remaining number falls with each step.
use Rattle.std.proofs.Common.{ℕ, ◌+◌, ◌-◌, ◌*◌, ◌≤◌, ◌<◌, arith}
use Rattle.std.proofs.Math.Nat.{mul-le-mul_right}

-- an upper bound on the remaining steps: with that many tokens, this many of them left, and that
-- many characters from the backtracking point on
abbrev pub steps_left : ℕ → ℕ → ℕ → ℕ
steps_left tokens left room = room * (tokens + 1) + left

pub steps_any : (tokens at room rest : ℕ) → at < tokens → rest ≤ room
    → steps_left tokens (tokens - (at + 1)) rest + 1 ≤ steps_left tokens (tokens - at) room
steps_any tokens at room rest lt le =
    omega (arith, mul-le-mul_right (tokens + 1) le)

pub steps_accept : (tokens at room : ℕ) → at < tokens
    → steps_left tokens (tokens - (at + 1)) room + 1 ≤ steps_left tokens (tokens - at) room
steps_accept tokens at room lt = omega arith

pub steps_back : (tokens at again room : ℕ)
    → steps_left tokens (tokens - again) room + 1 ≤ steps_left tokens (tokens - at) (room + 1)
steps_back tokens at again room = omega arith
