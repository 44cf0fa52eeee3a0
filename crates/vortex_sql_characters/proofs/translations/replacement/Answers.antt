use Rattle.std.proofs.Common.{ap, sym, ◌∙◌}
use Rattle.std.specs.Prelude.{chars}
use Rattle.std.specs.Str.Iter.{chars_rest}
use Rattle.std.proofs.lemmas.List.{nil_from_length}
use Rattle.std.proofs.lemmas.Str.{IsUtf8-past_char}
use Rattle.vortex_sql_characters.specs.Translations as specs
use Rattle.vortex_sql_characters.proofs.Replacements.{here, none_left, past}
use Rattle.vortex_sql_characters.proofs.translations.replacement.Goals as goal

pub returns-then-character-c : goal.returns-then-character-c
returns-then-character-c c =
    c.first_of.ensures
    ∙ sym (here c.in-Some.character c.args.c _ _ (chars c.loop-character.rest.now)
    c.loop-character.invariant.utf8 c.in-Some.ensures.steps.0 c.if-character-c.true)
    ∙ c.loop-character.invariant.same

pub loop-character-preserved : goal.loop-character-preserved
loop-character-preserved c = record {
  same =
      ap (λ ds. specs.replacement (chars (chars_rest c.next.new.self)) ds c.args.c)
      c.after_first-rest.ensures
      ∙ sym (past c.in-Some.character c.args.c _ _ (chars c.loop-character.rest.now)
      c.loop-character.invariant.utf8 c.in-Some.ensures.steps.0 c.if-character-c.false)
      ∙ c.loop-character.invariant.same;
  utf8 =
      IsUtf8-past_char _ _ c.in-Some.character c.loop-character.invariant.utf8
      c.in-Some.ensures.steps.0;
  others_utf8 = c.after_first-rest.utf8;
}

pub returns : goal.returns
returns c =
    sym (none_left c.args.c _ (chars c.loop-character.rest.now)
    (nil_from_length _ c.in-None.ensures.steps.0.0))
    ∙ c.loop-character.invariant.same
