use Rattle.std.proofs.Common.{◌≡◌, ◌++◌, ap, ◌∙◌, chars, encode_utf8_all, string_bytes}
use Rattle.std.specs.Str.Iter.{chars_rest}
use Rattle.std.proofs.lemmas.List.{nil_from_length}
use Rattle.std.proofs.lemmas.Str.{IsUtf8-past_char}
use Rattle.vortex_sql_pads.specs.Capitals.{capitals, letter}
use Rattle.vortex_sql_pads.proofs.Capitalised.{one_more, ended}
use Rattle.vortex_sql_pads.proofs.capitals.by_capitals.Goals as goal

pub loop-c-preserved : goal.loop-c-preserved
loop-c-preserved c =
    let held = c.loop-c.invariant in
    let parts = c.in-Some.ensures.steps.0 in
    let rest = chars (chars_rest c.next.new.self) in
    let more = string_bytes c.loop-c.made ++ encode_utf8_all (letter c.loop-c.within c.in-Some.c) in (
      IsUtf8-past_char _ _ c.in-Some.c held.0 parts,
      ap (λ bs. bs ++ encode_utf8_all (capitals c.is_alphanumeric-within.result rest))
          c.in_ok-push_letter.ensures
          ∙ ap (λ b. more ++ encode_utf8_all (capitals b rest)) c.is_alphanumeric-within.ensures.value
          ∙ one_more c.loop-c.within c.in-Some.c _ _ (string_bytes c.loop-c.made) _ held.0 parts
          held.1,
    )

pub returns : goal.returns
returns c =
    ended c.loop-c.within _ (string_bytes c.loop-c.made) _
    (nil_from_length _ c.in-None.ensures.steps.0.0) c.loop-c.invariant.1
