use Rattle.std.specs.Bool.{⊤}
use Rattle.vortex_checked.proofs.guess.I32GuessedDivision.guesses.Given as goal

-- no contract on guesses
abbrev pub invariant-loop-k : goal.invariant-loop-k
invariant-loop-k l = ⊤
