use Rattle.std.proofs.Common.{◌≡◌, ◌++◌, IsUtf8, chars, string_bytes, encode_utf8_all}
use Rattle.std.specs.Str.Iter.{chars_rest}
use Rattle.vortex_sql_pads.specs.Capitals.{capitals, initcap}
use Rattle.vortex_sql_pads.proofs.capitals.by_capitals.Given as goal

-- what is made so far, before the other characters
abbrev pub invariant-loop-c : goal.invariant-loop-c
invariant-loop-c l =
    IsUtf8 (chars_rest l.c-iterator)
    × (string_bytes l.made ++ encode_utf8_all (capitals l.within (chars (chars_rest l.c-iterator)))
    ≡ initcap l.text)
