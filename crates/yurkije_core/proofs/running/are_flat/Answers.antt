use Rattle.std.proofs.Common.{arith, rules, subst, take_all}
use Rattle.std.specs.Prelude.{All, IfSome}
use Rattle.yurkije_columns.specs.Checking.{IsFlat}
use Rattle.yurkije_core.proofs.ChunkRows.{all_next}
use Rattle.yurkije_core.proofs.running.are_flat.Goals as goal

pub loop-k-preserved : goal.loop-k-preserved
loop-k-preserved c =
    all_next (λ o. IfSome o IsFlat) c.args.columns.now c.loop-k.k _ c.loop-k-test.true c.loop-k.invariant
    (c.is_flat_if_read.ensures (search rules))

pub returns : goal.returns
returns c = λ yes.
    subst (All (λ o. IfSome o IsFlat))
    (take_all c.loop-k.k c.args.columns.now (omega (arith, c.loop-k-test.false)))
    c.loop-k.invariant
