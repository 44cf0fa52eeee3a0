-- Patterns by the grammar of the toolchain's crate `regex`.
use Rattle.std.specs.Prelude.{◌≡◌, ℕ, List, Option, Some, None, chars, length, nat_le, if◌then◌else◌}
use Rattle.regex.specs.Patterns.{Re, SameCaptures, default_config}
use Rattle.regex_syntax.specs.Brackets.{Nested}
use Rattle.regex_syntax.specs.Grammar.{Names, read}

-- what is nested at most as deep as a pattern may be
abbrev pub shallow : Option (Nested Re × Names) → Option Re
shallow None = None
shallow (Some (re, names)) =
    if nat_le re.depth default_config.nest_limit then Some re.value else None

-- the pattern that a text is read as
abbrev pub pattern_in : List ℕ → Option Re
pattern_in ps = shallow (read default_config (chars ps))

abbrev pub groups_read : Option (Nested Re × Names) → ℕ
groups_read None = 0
groups_read (Some (re, names)) = length names

-- how many groups that pattern has, and one more for the match, which is group 0
abbrev pub groups_in : List ℕ → ℕ
groups_in ps = groups_read (read default_config (chars ps))

-- the text is read as a pattern that matches as this one does
abbrev pub IsPatternOf : List ℕ → Re → Type 0
IsPatternOf ps re = (as_read : Re) × (pattern_in ps ≡ Some as_read) × SameCaptures re as_read
