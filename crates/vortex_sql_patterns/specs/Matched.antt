-- One match that is replaced.
use Rattle.std.specs.Prelude.{◌≡◌, ◌++◌, ℕ, List, Option, Some, None, IsCharBoundary, chars, slice_range}
use Rattle.regex.specs.Patterns.{Re}
use Rattle.vortex_sql_patterns.specs.Replacing.{Found, found_at, group_in, written}
use Rattle.vortex_sql_patterns.specs.PatternFunctions.{behind}

-- there is none, or it is appended with what is before it
abbrev pub IsFoundAt : Re → List ℕ → ℕ → ℕ → List ℕ → List ℕ → List ℕ → Option (ℕ × ℕ) → Type 0
IsFoundAt re bs at start rs before made None = (found_at re bs start ≡ None) × (made ≡ before)
IsFoundAt re bs at start rs before made (Some s) =
    (f : Found) × (found_at re bs start ≡ Some f) × (s ≡ (f.end, behind (f.start, f.end)))
    × IsCharBoundary bs f.end
    × (made ≡ before ++ (slice_range bs at f.start ++ written (group_in bs f) (chars rs)))
