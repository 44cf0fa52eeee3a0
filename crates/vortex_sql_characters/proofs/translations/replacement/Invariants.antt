use Rattle.std.proofs.Common.{◌≡◌}
use Rattle.std.specs.Prelude.{IsUtf8, chars}
use Rattle.std.specs.Str.Iter.{chars_rest}
use Rattle.vortex_sql_characters.specs.Translations.{replacement}
use Rattle.vortex_sql_characters.proofs.translations.replacement.Given as goal

-- the character is none of those before
abbrev pub invariant-loop-character : goal.invariant-loop-character
invariant-loop-character l = record {
  same :
      replacement (chars (chars_rest l.character-iterator)) (chars l.rest) l.c
      ≡ replacement (chars l.characters) (chars l.others) l.c;
  utf8 : IsUtf8 (chars_rest l.character-iterator);
  others_utf8 : IsUtf8 l.rest;
}
