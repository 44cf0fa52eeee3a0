use Rattle.std.proofs.Common.{List, map, take}
use Rattle.vortex_columns.specs.ColumnView.{ColumnView}
use Rattle.yurkije_core.specs.Chunks.{AreRun}
use Rattle.yurkije_core.proofs.chunks.begun.Given as goal

-- no row of the answers so far
abbrev pub invariant-loop-answer : goal.invariant-loop-answer
invariant-loop-answer l =
    (cs : List ColumnView)
    → AreRun cs 0 (map (λ a. a.tree) (take l.answer-index l.answers)) l.begun.items
