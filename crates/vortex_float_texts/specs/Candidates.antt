-- The decimals next to a float, so many of its digits left out.
use Rattle.std.specs.Prelude.{◌≡◌, ◌+◌, ◌*◌, ◌/◌, ◌%◌, ◌^◌, ◌&&◌, ◌||◌, ℕ, Bool, nat_eq, nat_lt, if◌then◌else◌}

abbrev pub unit_at : ℕ → ℕ
unit_at j = 10 ^ j

-- of twice a number: without its last j digits
abbrev pub front_of : ℕ → ℕ → ℕ
front_of h j = h / (2 * unit_at j)

-- the next one is nearer, or as near and even
abbrev pub rises : ℕ → ℕ → Bool
rises h j =
    nat_lt (unit_at j) (h % (2 * unit_at j))
    || (nat_eq (h % (2 * unit_at j)) (unit_at j) && nat_eq (front_of h j % 2) 1)

abbrev pub nearest : ℕ → ℕ → ℕ
nearest h j = if rises h j then front_of h j + 1 else front_of h j

-- the one on the other side
abbrev pub other : ℕ → ℕ → ℕ
other h j = if rises h j then front_of h j else front_of h j + 1
