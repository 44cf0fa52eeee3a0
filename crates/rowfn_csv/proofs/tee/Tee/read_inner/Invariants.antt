use Rattle.std.proofs.Common.{◌≡◌}
use Rattle.rowfn_csv.proofs.tee.Tee.read_inner.Given as goal

-- no line is read yet
abbrev pub invariant-loop : goal.invariant-loop
invariant-loop g l = l.self.lines ≡ l.initial.self.lines
