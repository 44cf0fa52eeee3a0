use Rattle.std.proofs.Common.{◌≡◌, ◌++◌}
use Rattle.std.specs.Prelude.{IsUtf8, chars, encode_utf8_all, string_bytes}
use Rattle.std.specs.List.{flat_map}
use Rattle.std.specs.Str.Iter.{chars_rest}
use Rattle.vortex_sql_characters.specs.Translations.{replacement, translated}
use Rattle.vortex_sql_characters.proofs.translations.translated.Given as goal

-- what is made so far, before what comes in place of the other characters
abbrev pub invariant-loop-c : goal.invariant-loop-c
invariant-loop-c l = record {
  utf8 : IsUtf8 (chars_rest l.c-iterator);
  made :
      string_bytes l.made
      ++ encode_utf8_all (flat_map (replacement (chars l.characters) (chars l.others))
      (chars (chars_rest l.c-iterator)))
      ≡ translated l.text l.characters l.others;
}
