-- The faults of formats, and of texts that do not fit them.
use Rattle.std.specs.Prelude.{ℕ, List, Option, Some, None, codes, if◌then◌else◌, nat_eq}

-- the numbers that E10 has: those behind the numbers of rows, of roots and of `make_date`
abbrev pub unknown_format : ℕ
unknown_format = 38

abbrev pub other_format : ℕ
other_format = 39

abbrev pub format_fault_text : ℕ → Option (List ℕ)
format_fault_text n =
    if nat_eq n unknown_format then Some (codes "date format that is not known")
    else if nat_eq n other_format then Some (codes "text that does not fit its date format")
    else None
