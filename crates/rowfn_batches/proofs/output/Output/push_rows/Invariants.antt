use Rattle.rowfn_batches.specs.Outputs.{Adds, row_lines}
use Rattle.rowfn_batches.proofs.output.Output.push_rows.Given as goal

-- the lines so far
abbrev pub invariant-loop-row : goal.invariant-loop-row
invariant-loop-row l =
    Adds l.initial.self l.self
    (row_lines l.initial.self.format l.answers l.row)
