use Rattle.std.proofs.Common.{take}
use Rattle.std.specs.Prelude.{All}
use Rattle.vortex_program.specs.Programs.{trees_of}
use Rattle.rowfn_queries.specs.Queries.{IsTruth}
use Rattle.rowfn_queries.proofs.binding.check_truth.Given as goal

-- the trees so far are truth values
abbrev pub invariant-loop-answer : goal.invariant-loop-answer
invariant-loop-answer l = All IsTruth (trees_of (take l.answer-index l.answers))
