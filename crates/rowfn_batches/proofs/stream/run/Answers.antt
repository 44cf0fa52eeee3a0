use Rattle.rowfn_batches.proofs.stream.run.Goals as goal

pub returns-in-End-clause-runs : goal.returns-in-End-clause-runs
returns-in-End-clause-runs g c = rw c.in-End.is c.run_until_refused.ensures.flows

pub returns-in-Skip-clause-runs : goal.returns-in-Skip-clause-runs
returns-in-Skip-clause-runs g c = rw c.in-Skip.is c.run_past_refused.ensures.flows
