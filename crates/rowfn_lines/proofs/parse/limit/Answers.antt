use Rattle.std.proofs.Common.{sym, ◌∙◌}
use Rattle.vortex_cells.proofs.Numbers.{are_digits}
use Rattle.rowfn_lines.proofs.Limits.{limit_read, no_limit}
use Rattle.rowfn_lines.proofs.parse.limit.Goals as goal

pub returns-then-not-are_digits : goal.returns-then-not-are_digits
returns-then-not-are_digits c =
    no_limit c.args.word.now (sym c.are_digits.ensures ∙ c.if-not-are_digits.true)

pub returns : goal.returns
returns c =
    let w = c.args.word.now in
    let digits = are_digits w (sym c.are_digits.ensures ∙ c.if-not-are_digits.false) in
    c.ok.ensures.value ∙ limit_read w c.parse.result digits c.parse.ensures.value.0
