use Rattle.std.proofs.Common.{sym, ◌∙◌}
use Rattle.std.proofs.lemmas.Str.{chars_past_char}
use Rattle.vortex_cells.proofs.escapes.split_first.Goals as goal

pub returns : goal.returns
returns c =
    rw c.as_str.ensures
    (chars_past_char c.args.text.now c.next.new.self.rest.now c.in_ok-first.first c.utf8.text
    (sym c.chars-rest.ensures.rest ∙ c.in_ok-first.ensures.steps.0))
