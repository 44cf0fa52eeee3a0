use Rattle.rowfn_batches.specs.Names.{names_of}
use Rattle.rowfn_batches.proofs.Outputs.{HasNames}
use Rattle.rowfn_batches.proofs.output.Output.push_names.Given as goal

-- the names so far
abbrev pub invariant-loop-k : goal.invariant-loop-k
invariant-loop-k l = HasNames l.initial.self l.self (names_of l.answers) l.k
