use Rattle.std.proofs.Common.{◌<◌, ◌≤◌, ◌-◌}
use Rattle.vortex_standard.specs.Standard.{standard_meaning}
use Rattle.vortex_program.specs.Executing.{AllGiveWithin}
use Rattle.vortex_program.specs.Programs.{trees_of}
use Rattle.vortex_program.proofs.faults.suspect_row.Given as goal

-- none faults in the rows before `from`, and where none faults in those before `to`, none does
abbrev pub invariant-parts : goal.invariant-parts
invariant-parts l =
    (l.from < l.to)
    × (l.to ≤ l.row_count)
    × AllGiveWithin standard_meaning l.columns 0 l.from (trees_of l.answers)
    × (AllGiveWithin standard_meaning l.columns 0 l.to (trees_of l.answers)
    → AllGiveWithin standard_meaning l.columns 0 l.row_count (trees_of l.answers))

abbrev pub decreases-parts : goal.decreases-parts
decreases-parts l = l.to - l.from
