use Rattle.std.proofs.Common.{sym, ◌∙◌}
use Rattle.vortex_kernels.proofs.quotients.next_rows.Goals as goal

pub returns-then-not-is_off-clause-results : goal.returns-then-not-is_off-clause-results
returns-then-not-is_off-clause-results g c =
    c.guess_rows-guesses.ensures.exact c.args.fault c.requires.before c.if-not-is_off.true
