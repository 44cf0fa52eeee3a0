use Rattle.std.proofs.Common.{string_bytes}
use Rattle.rowfn_batches.specs.Explaining.{AreExplained}
use Rattle.rowfn_batches.proofs.explained.answer_lines.Given as goal

-- the answers so far are explained
abbrev pub invariant-loop-k : goal.invariant-loop-k
invariant-loop-k l = AreExplained l.written l.optimized l.k (string_bytes l.out)
