use Rattle.std.specs.Bool.{⊤}
use Rattle.vortex_checked.proofs.guess.I64GuessedDivision.may_serve.Given as goal

-- no contract on it
abbrev pub invariant-loop-left : goal.invariant-loop-left
invariant-loop-left l = ⊤

abbrev pub invariant-loop-right : goal.invariant-loop-right
invariant-loop-right l = ⊤
