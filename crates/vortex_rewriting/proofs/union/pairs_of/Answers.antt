use Rattle.std.proofs.Common.{◌-◌, ◌*◌, ◌+◌, map, take, drop, false, arith}
use Rattle.std.proofs.lemmas.Result.{err_from_is_err_and}
use Rattle.vortex_errors.proofs.Answering.{UnlessMemory-weaker}
use Rattle.vortex_types.specs.LogicalTypes.{bool_type}
use Rattle.vortex_operators.specs.declared.operators.Operator.TheVariants.{And}
use Rattle.vortex_interface.specs.Shipped.{Binary}
use Rattle.vortex_interface.specs.Functions.{ours}
use Rattle.vortex_functions.specs.Binding.{RefusesCall}
use Rattle.vortex_rewriting.specs.Contexts.{tree_by}
use Rattle.vortex_rewriting.proofs.NotRefused.{not_refused}
use Rattle.vortex_rewriting.proofs.Unions.{next_two, next_typed, one_more_pair, all_pairs}
use Rattle.vortex_rewriting.proofs.union.pairs_of.Goals as goal

pub returns-in_err-new_node-clause-answer : goal.returns-in_err-new_node-clause-answer
returns-in_err-new_node-clause-answer g c =
    let m = g.C.ScalarFnVTable.meaning in
    let seen = g.T.ReduceTree.seen in
    let n = (seen c.args.node.now).context in
    let tests = c.args.tests.now in
    let i = c.loop-pair.pair in
    let pair = take (2 * i + 2 - 2 * i) (drop (2 * i) tests) in
    let typed = next_typed m seen n tests i pair (omega arith)
    (next_two tests i) c.requires in
    let p =
    err_from_is_err_and c.from_residual.result c.from_residual.ensures.1 in
    rw (p.1, p.2)
    (UnlessMemory-weaker (RefusesCall m (ours (Binary And)) (map (tree_by seen) pair)) (λ e. ⊥)
    (not_refused m (ours (Binary And)) (map (tree_by seen) pair) (bool_type false) typed)
    c.in_err-new_node.field-0.0 c.in_err-new_node.ensures)

pub loop-pair-preserved : goal.loop-pair-preserved
loop-pair-preserved g c =
    let m = g.C.ScalarFnVTable.meaning in
    let seen = g.T.ReduceTree.seen in
    let n = (seen c.args.node.now).context in
    let tests = c.args.tests.now in
    let i = c.loop-pair.pair in
    one_more_pair m seen n tests c.loop-pair.joined.items i
    (take (2 * i + 2 - 2 * i) (drop (2 * i) tests)) c.in_ok-new_node.field-0
    c.push.new.self.items (omega arith) (next_two tests i) c.requires
    c.loop-pair.invariant c.in_ok-push.ensures.items c.in_ok-new_node.ensures.0.is
    c.in_ok-new_node.ensures.1

pub returns-clause-answer : goal.returns-clause-answer
returns-clause-answer g c =
    all_pairs (tree_by g.T.ReduceTree.seen) c.args.tests.now c.loop-pair.joined.items c.loop-pair.pair
    (omega arith) c.loop-pair.invariant.0
