use Rattle.std.proofs.Common.{add-one, arith}
use Rattle.yurkije_core.proofs.PutRows.{none_put, all_put, next_takes, put_more}
use Rattle.yurkije_core.proofs.chunks.push_all.Goals as goal

pub loop-k-init : goal.loop-k-init
loop-k-init c = none_put c.args.joined.now.items c.args.answers.now c.requires

pub returns : goal.returns
returns c =
    all_put c.loop-k.k c.args.joined.now.items c.args.answers.now c.loop-k.joined.items
    (omega (arith, c.loop-k-test.false)) c.loop-k.invariant

pub push-requires-clause-dtype : goal.push-requires-clause-dtype
push-requires-clause-dtype c =
    (next_takes c.loop-k.k c.args.joined.now.items c.args.answers.now c.loop-k.joined.items
    c.index-answers-k.result c.index_mut.result.now c.requires c.loop-k.invariant c.loop-k-test.true
    c.index_mut.ensures.value c.index-answers-k.is).dtype

pub push-requires-clause-whole : goal.push-requires-clause-whole
push-requires-clause-whole c =
    (next_takes c.loop-k.k c.args.joined.now.items c.args.answers.now c.loop-k.joined.items
    c.index-answers-k.result c.index_mut.result.now c.requires c.loop-k.invariant c.loop-k-test.true
    c.index_mut.ensures.value c.index-answers-k.is).whole

pub loop-k-preserved : goal.loop-k-preserved
loop-k-preserved c =
    put_more c.loop-k.k _ c.args.joined.now.items c.args.answers.now c.loop-k.joined.items
    c.index-answers-k.result c.index_mut.result.now c.push.new.self (add-one c.loop-k.k)
    c.loop-k.invariant c.loop-k-test.true c.index_mut.ensures.value c.index-answers-k.is
    c.in_ok-push.ensures.dtype c.in_ok-push.ensures.rows
