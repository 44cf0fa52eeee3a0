use Rattle.std.proofs.Common.{◌≡◌, ◌<◌, ◌-◌, ◌*◌, ◌/◌, map}
use Rattle.yurkije_columns.specs.Batches.{batch_column}
use Rattle.vortex_program.specs.Programs.{trees_of, AreRewrites}
use Rattle.yurkije_core.specs.Chunks.{AreRun, AreAnswered}
use Rattle.yurkije_core.proofs.chunks.add_chunks.Given as goal

-- the chunks so far were run, and are whole bytes of bits
abbrev pub invariant-chunks : goal.invariant-chunks
invariant-chunks l = record {
  some : l.first < l.rows;
  whole : 8 * (l.first / 8) ≡ l.first;
  run : AreRun (map (batch_column l.rows) l.columns) l.first (trees_of l.program.optimized.items)
      l.joined.items;
  answered : AreRewrites l.program.written.items l.program.optimized.items
      → AreAnswered (map (batch_column l.rows) l.columns) 0 (trees_of l.program.written.items)
      l.initial.joined.items
      → AreAnswered (map (batch_column l.rows) l.columns) l.first (trees_of l.program.written.items)
      l.joined.items;
}

abbrev pub decreases-chunks : goal.decreases-chunks
decreases-chunks l = l.rows - l.first
