use Rattle.rowfn_batches.specs.Passing.{Passed}
use Rattle.rowfn_batches.proofs.stream.run_until_refused.Given as goal

-- the batches so far were passed on
abbrev pub invariant-batches : goal.invariant-batches
invariant-batches g l =
    Passed l.initial.stream (g.W.Write.contents l.initial.writer) l._turn l.stream
    (g.W.Write.contents l.writer)
