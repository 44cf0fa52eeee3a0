use Rattle.std.proofs.Common.{arith}
use Rattle.rowfn_batches.proofs.Layouts.{nowhere}
use Rattle.rowfn_batches.proofs.header.find_from.Goals as goal

pub returns : goal.returns
returns c =
    nowhere _ _ _ c.loop-i.i (omega (arith, c.loop-i-test.false, c.len-i-end.ensures))
    c.loop-i.invariant
