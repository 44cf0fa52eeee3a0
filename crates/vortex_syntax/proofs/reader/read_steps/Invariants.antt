use Rattle.std.proofs.Common.{◌≡◌, map, take, drop}
use Rattle.vortex_syntax.specs.Tokens.{token_in}
use Rattle.vortex_syntax.specs.Reading.{seen, run, steps_of}
use Rattle.vortex_syntax.proofs.Stops.{LeadsTo}
use Rattle.vortex_syntax.proofs.reader.read_steps.Given as goal

abbrev pub invariant-loop-i : goal.invariant-loop-i
invariant-loop-i l =
    (steps_of (map token_in l.tokens) ≡ run (seen l.reading l.mode)
    (map token_in (drop l.i l.tokens)))
    × LeadsTo (map token_in (take l.i l.tokens)) (seen l.reading l.mode)
