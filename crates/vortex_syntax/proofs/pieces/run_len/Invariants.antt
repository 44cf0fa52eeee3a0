use Rattle.std.proofs.Common.{◌≡◌, ℕ, ◌<◌, true, get_or}
use Rattle.vortex_syntax.specs.Pieces.{is_in}
use Rattle.vortex_syntax.proofs.pieces.run_len.Given as goal

abbrev pub invariant-loop-i : goal.invariant-loop-i
invariant-loop-i l = (k : ℕ) → k < l.i → is_in l.run (get_or l.text k 0) ≡ true
