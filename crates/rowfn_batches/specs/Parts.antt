-- Rows of a batch that are gone over part by part.
use Rattle.std.specs.Prelude.{ℕ, ◌+◌, ◌*◌, ◌-◌, ◌^◌, min, Option, Some, None}

-- the row of so many behind those that were tried from one on, or behind the one of them that was
-- refused
abbrev pub next_row : ℕ → ℕ → ℕ → Option ℕ → ℕ
next_row len first tried None = min (min (first + tried) (2 ^ 64 - 1)) len
next_row len first tried (Some place) =
    min (min (min (first + place) (2 ^ 64 - 1) + 1) (2 ^ 64 - 1)) len

-- how many are tried next, where so many were: twice as many, and one behind one that was refused
abbrev pub next_count : ℕ → Option ℕ → ℕ
next_count count None = min (count * 2) (2 ^ 64 - 1)
next_count count (Some place) = 1
