use Rattle.std.proofs.Common.{◌++◌, ap, ◌∙◌}
use Rattle.std.specs.Prelude.{chars, encode_utf8_all, string_bytes}
use Rattle.std.specs.List.{flat_map}
use Rattle.std.specs.Str.Iter.{chars_rest}
use Rattle.std.proofs.lemmas.List.{nil_from_length}
use Rattle.std.proofs.lemmas.Str.{IsUtf8-past_char}
use Rattle.vortex_sql_characters.specs.Translations as specs
use Rattle.vortex_sql_characters.proofs.Replacements.{ended, one_more}
use Rattle.vortex_sql_characters.proofs.translations.translated.Goals as goal

pub loop-c-preserved : goal.loop-c-preserved
loop-c-preserved c =
    let held = c.loop-c.invariant in
    let parts = c.in-Some.ensures.steps.0 in
    let f = specs.replacement (chars c.args.characters.now) (chars c.args.others.now) in
    let rest = encode_utf8_all (flat_map f (chars (chars_rest c.next.new.self))) in record {
      utf8 = IsUtf8-past_char _ _ c.in-Some.c held.utf8 parts;
      made =
          ap (λ bs. bs ++ rest) c.in_ok-push_some.ensures
          ∙ ap (λ cs. string_bytes c.loop-c.made ++ encode_utf8_all cs ++ rest)
          c.replacement.ensures
          ∙ one_more f c.in-Some.c _ _ (string_bytes c.loop-c.made) _ held.utf8 parts held.made;
    }

pub returns : goal.returns
returns c =
    ended (specs.replacement (chars c.args.characters.now) (chars c.args.others.now)) _
    (string_bytes c.loop-c.made) _ (nil_from_length _ c.in-None.ensures.steps.0.0)
    c.loop-c.invariant.made
