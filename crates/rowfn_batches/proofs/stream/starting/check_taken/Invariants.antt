use Rattle.std.proofs.Common.{take}
use Rattle.csv.specs.Records.{fields_of}
use Rattle.rowfn_batches.specs.Layouts.{AreApartFrom}
use Rattle.rowfn_batches.proofs.stream.starting.check_taken.Given as goal

-- the names so far are no field's
abbrev pub invariant-loop-answer : goal.invariant-loop-answer
invariant-loop-answer l = AreApartFrom (fields_of l.header) (take l.answer-index l.answers)
