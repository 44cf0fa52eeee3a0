use Rattle.std.proofs.Common.{arith, rules, subst, take_all}
use Rattle.std.specs.Prelude.{All}
use Rattle.vortex_columns.specs.ColumnView.{AreTyped}
use Rattle.yurkije_columns.specs.Batches.{batch_column}
use Rattle.yurkije_lent.proofs.LentRows.{all_next, mapped_all}
use Rattle.yurkije_lent.proofs.types.are_typed.Goals as goal

pub loop-k-preserved : goal.loop-k-preserved
loop-k-preserved c = λ n.
    all_next (λ o. AreTyped (batch_column n o).dtype (batch_column n o).rows) c.args.columns.now
    c.loop-k.k _ c.loop-k-test.true (c.loop-k.invariant n) (c.if-not-learn_if_read.ensures (search rules) n)

pub returns : goal.returns
returns c = λ whole n.
    mapped_all (λ d. AreTyped d.dtype d.rows) (batch_column n) c.args.columns.now
    (subst (All (λ o. AreTyped (batch_column n o).dtype (batch_column n o).rows))
    (take_all c.loop-k.k c.args.columns.now (omega (arith, c.loop-k-test.false)))
    (c.loop-k.invariant n))
