use Rattle.std.proofs.lemmas.Bool.{eqb-true}
use Rattle.vortex_shipped.proofs.LikeCalls.{TwoTexts, two_texts, like_call}
use Rattle.vortex_shipped.proofs.like.LikeScalarFnVTable.execute.Goals as goal

pub execute_like-requires-clause-input : goal.execute_like-requires-clause-input
execute_like-requires-clause-input g c =
    let cs = g.A.ExecutionArgs.inputs c.args.args.now in
    let input = c.in_ok-input.input.now in
    let pattern = c.in_ok-pattern.pattern.now in
    let one = c.in_ok-input.ensures in
    let other = c.in_ok-pattern.ensures in
    (two_texts cs input pattern (eqb-true _ _ c.requires.arity) c.requires.accepted one.input other.input).input

pub execute_like-requires-clause-pattern : goal.execute_like-requires-clause-pattern
execute_like-requires-clause-pattern g c =
    let cs = g.A.ExecutionArgs.inputs c.args.args.now in
    let input = c.in_ok-input.input.now in
    let pattern = c.in_ok-pattern.pattern.now in
    let one = c.in_ok-input.ensures in
    let other = c.in_ok-pattern.ensures in
    (two_texts cs input pattern (eqb-true _ _ c.requires.arity) c.requires.accepted one.input other.input).pattern

pub returns : goal.returns
returns g c =
    let options = c.args.options.now in
    let cs = g.A.ExecutionArgs.inputs c.args.args.now in
    let n = g.A.ExecutionArgs.rows c.args.args.now in
    let input = c.in_ok-input.input.now in
    let pattern = c.in_ok-pattern.pattern.now in
    let one = c.in_ok-input.ensures in
    let other = c.in_ok-pattern.ensures in
    let two : TwoTexts cs input pattern =
    two_texts cs input pattern (eqb-true _ _ c.requires.arity) c.requires.accepted one.input other.input in
    like_call options cs input pattern n two c.execute_like.result one.count c.execute_like.ensures
