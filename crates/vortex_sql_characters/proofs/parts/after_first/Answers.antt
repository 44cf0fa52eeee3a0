use Rattle.std.proofs.Common.{◌≡◌, [], ap, drop, sym, ◌∙◌}
use Rattle.std.specs.Prelude.{chars}
use Rattle.std.proofs.lemmas.List.{nil_from_length}
use Rattle.std.proofs.lemmas.Str.{chars_past_char, chars-nil}
use Rattle.vortex_sql_characters.proofs.parts.after_first.Goals as goal

pub returns-in-Some : goal.returns-in-Some
returns-in-Some c =
    rw c.as_str.ensures
    (sym (ap (drop 1) (chars_past_char c.args.text.now _ _ c.utf8.text
    (sym c.chars-rest.ensures.rest ∙ c.in-Some.ensures.steps.0))))

pub returns-in-None : goal.returns-in-None
returns-in-None c =
    let none : chars c.args.text.now ≡ [] =
    ap chars (sym c.chars-rest.ensures.rest ∙ nil_from_length _ c.in-None.ensures.steps.0.0)
    ∙ chars-nil in
    none ∙ sym (ap (drop 1) none)
