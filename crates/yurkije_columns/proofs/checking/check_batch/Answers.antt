use Rattle.std.proofs.Common.{arith}
use Rattle.yurkije_columns.proofs.Serving.{wrong_at, first_serve_more}
use Rattle.yurkije_columns.proofs.checking.check_batch.Goals as goal

pub returns-in-Err : goal.returns-in-Err
returns-in-Err c =
    wrong_at _ _ _ _ _ _ _ _ _ c.loop-k-test.true c.in_ok-check_count.ensures c.dtype.ensures c.number_at.ensures
    c.in-Err.ensures c.loop-k.invariant

pub loop-k-preserved : goal.loop-k-preserved
loop-k-preserved c =
    first_serve_more _ _ _ _ _ _ _ _ c.loop-k-test.true c.dtype.ensures c.number_at.ensures c.in-Ok.ensures
    c.loop-k.invariant

pub returns : goal.returns
returns c = record {
  each = c.in_ok-check_count.ensures;
  serve = λ i below. c.loop-k.invariant i (omega (arith, below, c.loop-k-test.false));
}
