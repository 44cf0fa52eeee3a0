use Rattle.std.proofs.Common.{◌≡◌, ◌≤◌, ◌++◌, List, map, take, drop}
use Rattle.vortex_syntax.specs.Tokens.{Token, token_in}
use Rattle.vortex_syntax.specs.Nesting.{nests, nests_from}
use Rattle.vortex_syntax.proofs.nesting.too_deep.Given as goal

abbrev pub invariant-loop-i : goal.invariant-loop-i
invariant-loop-i l =
    (l.depth ≤ 1000)
    × ((us : List Token)
    → nests (map token_in (take l.i l.tokens) ++ us) ≡ nests_from l.depth us)
    × (nests (map token_in l.tokens) ≡ nests_from l.depth (map token_in (drop l.i l.tokens)))
