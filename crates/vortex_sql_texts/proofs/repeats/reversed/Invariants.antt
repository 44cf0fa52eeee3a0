use Rattle.std.proofs.Common.{◌≡◌, ◌++◌, reverse}
use Rattle.std.specs.Prelude.{encode_utf8_all, string_bytes, vec_len}
use Rattle.std.specs.Str.{chars}
use Rattle.vortex_sql_texts.proofs.repeats.reversed.Given as goal

-- the letters that are left come before those
abbrev pub invariant-loop-letter : goal.invariant-loop-letter
invariant-loop-letter l =
    string_bytes l.made ++ encode_utf8_all (reverse l.letters.items)
    ≡ encode_utf8_all (reverse (chars l.text))

abbrev pub decreases-loop-letter : goal.decreases-loop-letter
decreases-loop-letter l = vec_len l.letters
