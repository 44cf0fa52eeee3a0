use Rattle.std.proofs.Common.{sym, ◌∙◌}
use Rattle.std.proofs.lemmas.Str.{chars_past_char, IsUtf8-past_char}
use Rattle.vortex_sql_patterns.proofs.replacements.split_first.Goals as goal

pub returns-clause-characters : goal.returns-clause-characters
returns-clause-characters c =
    rw c.as_str.ensures
    (chars_past_char c.args.text.now c.next.new.self.rest.now c.in_ok-first.first c.utf8.text
    (sym c.chars-rest.ensures.rest ∙ c.in_ok-first.ensures.steps.0))

pub returns-clause-utf8 : goal.returns-clause-utf8
returns-clause-utf8 c =
    rw c.as_str.ensures
    (IsUtf8-past_char c.args.text.now c.next.new.self.rest.now c.in_ok-first.first c.utf8.text
    (sym c.chars-rest.ensures.rest ∙ c.in_ok-first.ensures.steps.0))
