use Rattle.rowfn_batches.proofs.Outputs.{HasFirst}
use Rattle.rowfn_batches.proofs.output.Output.push_values.Given as goal

-- the fields so far
abbrev pub invariant-loop-k : goal.invariant-loop-k
invariant-loop-k l = HasFirst l.initial.self l.self l.answers l.place l.k
