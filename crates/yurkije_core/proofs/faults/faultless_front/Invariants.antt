use Rattle.std.proofs.Common.{◌<◌, ◌-◌, map}
use Rattle.vortex_expressions.specs.Items.{meaning}
use Rattle.vortex_program.specs.Executing.{AllGiveWithin}
use Rattle.vortex_program.specs.Programs.{trees_of}
use Rattle.yurkije_columns.specs.Batches.{batch_column}
use Rattle.yurkije_core.proofs.faults.faultless_front.Given as goal

-- no row so far faults
abbrev pub invariant-parts : goal.invariant-parts
invariant-parts l = record {
  some : l.first < l.rows;
  given : AllGiveWithin meaning (map (batch_column l.rows) l.columns) 0 l.first
      (trees_of l.program.optimized.items);
}

abbrev pub decreases-parts : goal.decreases-parts
decreases-parts l = l.rows - l.first
