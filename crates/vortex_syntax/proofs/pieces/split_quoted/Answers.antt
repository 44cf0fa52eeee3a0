use Rattle.std.proofs.Common.{◌∙◌, ap, take, Some}
use Rattle.vortex_syntax.proofs.Quotes.{cut_rest}
use Rattle.vortex_syntax.proofs.pieces.split_quoted.Goals as goal

pub returns-clause-closed : goal.returns-clause-closed
returns-clause-closed c =
    ap (λ ys. Some (take c.in_ok-n.n c.args.text.now, ys)) (cut_rest c.in_ok-n.n c.args.text.now)
    ∙ c.in_ok-n.ensures.closed
