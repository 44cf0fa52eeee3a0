-- The faults of numbers that no character has, and of places before the first character.
use Rattle.std.specs.Prelude.{ℕ, List, Option, Some, None, codes, if◌then◌else◌, nat_eq}

-- the numbers that E10 has: those behind the numbers of rows, roots, `make_date` and formats
abbrev pub no_character : ℕ
no_character = 40

abbrev pub no_place : ℕ
no_place = 41

abbrev pub character_fault_text : ℕ → Option (List ℕ)
character_fault_text n =
    if nat_eq n no_character then Some (codes "no character has that number")
    else if nat_eq n no_place then Some (codes "place before the first character in overlay")
    else None
