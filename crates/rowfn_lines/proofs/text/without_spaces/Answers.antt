use Rattle.std.proofs.Common.{lit<, None, sym, ◌∙◌}
use Rattle.std.proofs.lemmas.Str.Pattern.{strip_prefix_char}
use Rattle.rowfn_lines.proofs.Words.{no_space}
use Rattle.rowfn_lines.proofs.text.without_spaces.Goals as goal

pub returns : goal.returns
returns c =
    sym
    (no_space c.loop-after.rest.now
    (strip_prefix_char 32 c.loop-after.rest.now None c.in_default.ensures.cases (lit< tt)))
    ∙ c.loop-after.invariant.1
