-- The fault of a root of a negative number.
use Rattle.std.specs.Prelude.{ℕ, List, Option, Some, None, codes, nat_eq, if◌then◌else◌}

-- the number that E10 has: that behind those of rows
abbrev pub root_number : ℕ
root_number = 29

-- PostgreSQL's words
abbrev pub root_text : ℕ → Option (List ℕ)
root_text n =
    if nat_eq n root_number then Some (codes "cannot take square root of a negative number")
    else None
