use Rattle.std.proofs.Common.{take}
use Rattle.std.specs.Prelude.{All}
use Rattle.vortex_interface.specs.Bound.{IsBound}
use Rattle.vortex_standard.specs.Standard.{standard_meaning}
use Rattle.vortex_rewriting.specs.Keeping.{RewritesKeepRows}
use Rattle.vortex_program.specs.Executing.{AllFit}
use Rattle.vortex_program.specs.Programs.{trees_of}
use Rattle.vortex_program.proofs.faults.check_answers.Given as goal

-- the columns are valid for the trees so far, whose leaves are places and whose rewrites keep rows
abbrev pub invariant-loop-answer : goal.invariant-loop-answer
invariant-loop-answer l =
    All IsBound (trees_of (take l.answer-index l.answers))
    × AllFit l.columns l.row_count (trees_of (take l.answer-index l.answers))
    × All (RewritesKeepRows standard_meaning l.columns l.row_count)
    (trees_of (take l.answer-index l.answers))
