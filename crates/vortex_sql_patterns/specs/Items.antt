-- The items of a replacement.
use Rattle.std.specs.Prelude.{ℕ, List, encode_utf8}
use Rattle.regex.specs.Replace.{bytes_of}
use Rattle.regex.specs.Strings.{captures_haystack, captures_span}
use Rattle.regex.specs.declared.string.captures.Captures.{Captures}
use Rattle.vortex_sql_patterns.specs.declared.replacements.Item.{Item}
use Rattle.vortex_sql_patterns.specs.declared.replacements.Item.TheVariants.{Sign, Group}

abbrev pub item_bytes : (ℕ → List ℕ) → Item → List ℕ
item_bytes group (Sign c) = encode_utf8 c
item_bytes group (Group n) = group n

-- what a group of captures spans
abbrev pub captured : Captures → ℕ → List ℕ
captured c n = bytes_of (captures_haystack c) (captures_span c n)
