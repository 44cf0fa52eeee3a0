use Rattle.std.proofs.Common.{map, option_map}
use Rattle.rowfn_csv.specs.KeptLines.{line_of}
use Rattle.rowfn_batches.specs.Outputs.{Adds, appended_lines}
use Rattle.rowfn_batches.proofs.output.Output.push_appended.Given as goal

-- the lines so far
abbrev pub invariant-loop-place : goal.invariant-loop-place
invariant-loop-place g l =
    Adds l.initial.self l.self
    (appended_lines l.initial.self.format
    (map (line_of l.records) l.spans) (option_map (λ r. r.now) l.rows) l.answers l.place)
