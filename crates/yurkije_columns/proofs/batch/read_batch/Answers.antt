use Rattle.std.proofs.Common.{◌∙◌, map, ap, arith}
use Rattle.std.proofs.lemmas.List.{take_all}
use Rattle.yurkije_columns.specs.Batches.{batch_column}
use Rattle.yurkije_columns.proofs.Serving.{wrong_at, first_serve_more, read_more}
use Rattle.yurkije_columns.proofs.batch.read_batch.Goals as goal

pub returns-in-Err : goal.returns-in-Err
returns-in-Err c =
    wrong_at _ _ _ _ _ _ _ _ _ c.loop-k-test.true c.in_ok-check_count.ensures c.dtype.ensures c.number_at.ensures
    c.in-Err.ensures c.loop-k.invariant.serve

pub loop-k-preserved : goal.loop-k-preserved
loop-k-preserved c = record {
  count = omega (arith, c.push_reserved.ensures.len, c.loop-k.invariant.count);
  place = c.push_reserved.ensures.capacity ∙ c.loop-k.invariant.place;
  serve = first_serve_more _ _ _ _ _ _ _ _ c.loop-k-test.true c.dtype.ensures c.number_at.ensures
      c.in-Ok-read_if_some.ensures.0
      c.loop-k.invariant.serve;
  columns = c.push_reserved.ensures.items
      ∙ read_more _ _ _ _ _ c.in-Ok-read_if_some.field c.loop-k-test.true c.loop-k.invariant.columns
      c.in-Ok-read_if_some.ensures.1;
}

pub returns : goal.returns
returns c = (
  record {
    each = c.in_ok-check_count.ensures;
    serve = λ i below. c.loop-k.invariant.serve i (omega (arith, below, c.loop-k-test.false));
  },
  c.loop-k.invariant.columns
      ∙ ap (map (batch_column c.args.rows))
      (take_all c.loop-k.k c.args.columns.now (omega (arith, c.loop-k-test.false))),
)
