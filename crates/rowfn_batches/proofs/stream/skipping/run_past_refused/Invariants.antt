use Rattle.rowfn_batches.specs.Skipping.{PassedBut}
use Rattle.rowfn_batches.proofs.stream.skipping.run_past_refused.Given as goal

-- the batches so far were passed on, but for the rows that are refused
abbrev pub invariant-batches : goal.invariant-batches
invariant-batches g l =
    PassedBut l.initial.stream (g.W.Write.contents l.initial.writer) l.initial.refusals.count l._turn
    l.stream (g.W.Write.contents l.writer) l.refusals.count
