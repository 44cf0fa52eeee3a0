use Rattle.std.proofs.Common.{◌≡◌, ◌/◌, map, ap, ◌∙◌, arith}
use Rattle.vortex_errors.proofs.Answering.{AnswersUnlessMemory-weaker}
use Rattle.vortex_interface.specs.ValidityRules.{one_round}
use Rattle.vortex_rewriting.specs.Contexts.{tree_by}
use Rattle.vortex_rewriting.specs.Union.{pairs_of, joined_last}
use Rattle.vortex_rewriting.proofs.Unions.{last_truth, even_round, odd_round}
use Rattle.vortex_rewriting.proofs.union.one_round.Goals as goal

pub returns-then-len-eq0-clause-answer : goal.returns-then-len-eq0-clause-answer
returns-then-len-eq0-clause-answer g c =
    let tree = tree_by g.T.ReduceTree.seen in
    let tests = c.args.tests.items in
    AnswersUnlessMemory-weaker c.pairs_of.result
    (λ joined. map tree joined.items ≡ pairs_of (map tree c.deref.result.now))
    (λ joined. map tree joined.items ≡ one_round (map tree tests))
    (λ joined e. even_round tree (c.len.result / 2) tests joined.items (omega arith)
    (e ∙ ap (λ nodes. pairs_of (map tree nodes)) c.deref.ensures.value)) c.pairs_of.ensures.answer

pub join_last-requires-clause-truth : goal.join_last-requires-clause-truth
join_last-requires-clause-truth g c =
    let seen = g.T.ReduceTree.seen in
    (last_truth g.C.ScalarFnVTable.meaning seen (seen c.args.node.now).context c.args.tests.items
    c.pop.new.self.items c.in-Some.last c.in-Some.ensures.items c.requires).0

pub join_last-requires-clause-same_context : goal.join_last-requires-clause-same_context
join_last-requires-clause-same_context g c =
    let seen = g.T.ReduceTree.seen in
    (last_truth g.C.ScalarFnVTable.meaning seen (seen c.args.node.now).context c.args.tests.items
    c.pop.new.self.items c.in-Some.last c.in-Some.ensures.items c.requires).1

pub returns-in_ok-joined-in-Some-clause-answer : goal.returns-in_ok-joined-in-Some-clause-answer
returns-in_ok-joined-in-Some-clause-answer g c =
    let tree = tree_by g.T.ReduceTree.seen in
    let tests = c.args.tests.items in
    let rest = c.pop.new.self.items in
    let pairs = c.in_ok-joined-in-Some.joined.items in
    let last = c.in-Some.last in
    AnswersUnlessMemory-weaker c.join_last.result
    (λ joined. map tree joined.items ≡ joined_last (map tree pairs) (tree last))
    (λ joined. map tree joined.items ≡ one_round (map tree tests))
    (λ joined e. odd_round tree (c.len.result / 2) tests rest last pairs joined.items
    (omega (arith, c.in-Some.ensures.cases)) c.in-Some.ensures.items
    (c.in_ok-joined-in-Some.ensures.answer
    ∙ ap (λ nodes. pairs_of (map tree nodes)) c.deref-in-Some.ensures.value) e)
    c.join_last.ensures.answer
