use Rattle.std.proofs.Common.{arith}
use Rattle.yurkije_lent.proofs.FloatSides.{lent_keys}
use Rattle.yurkije_lent.proofs.floats.lent_patterns.Goals as goal

pub returns-then-end-values : goal.returns-then-end-values
returns-then-end-values g c =
    lent_keys g.T.FloatLane.key c.args.column.now g.T.NativePType.ptype c.in_ok-values.values.now
    c.in_ok-values.ensures c.in_ok-end.end (omega (arith, c.in_ok-end.ensures)) c.if-end-values.true
