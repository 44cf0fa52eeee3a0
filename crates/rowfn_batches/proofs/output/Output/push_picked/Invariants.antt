use Rattle.std.proofs.Common.{◌≡◌, ◌≤◌}
use Rattle.std.specs.List.{flat_map, range_with_len}
use Rattle.rowfn_batches.specs.Outputs.{Adds, picked_count}
use Rattle.rowfn_batches.proofs.Lines.{picked_line}
use Rattle.rowfn_batches.proofs.output.Output.push_picked.Given as goal

-- the lines so far, and how many they are
abbrev pub invariant-loop-i : goal.invariant-loop-i
invariant-loop-i g l = record {
  lines : Adds l.initial.self l.self
      (flat_map (picked_line l.records l.spans l.top) (range_with_len 0 l.i));
  count : l.count ≡ picked_count l.top l.i;
  few : l.count ≤ l.i;
}
