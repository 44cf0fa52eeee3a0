use Rattle.rowfn_batches.specs.Passing.{IsRefilled}
use Rattle.rowfn_batches.proofs.stream.Stream.fill.Given as goal

-- all but what reads the batch stays
abbrev pub invariant-rows : goal.invariant-rows
invariant-rows g l = IsRefilled l.initial.self l.self
