-- How deep brackets nest.
use Rattle.std.specs.Prelude.{ℕ, zero, suc, Bool, true, false, nat_lt, ◌&&◌, List, [], ◌∷◌}
use Rattle.vortex_syntax.specs.declared.token.Sign.TheVariants as sign
use Rattle.vortex_syntax.specs.Tokens.{Token, function, sign}

-- the most brackets that may be open at once
abbrev pub nesting_limit : ℕ
nesting_limit = 1000

-- a bracket, or a function's name with its bracket
abbrev pub opens : Token → Bool
opens (sign sign.Open) = true
opens (function w) = true
opens t = false

-- With d brackets open, no more than the limit are open at once. A bracket that closes none is
-- another error.
abbrev pub nests_from : ℕ → List Token → Bool
nests_from d [] = true
nests_from d (sign sign.Open ∷ ts) = nat_lt d nesting_limit && nests_from (suc d) ts
nests_from d (function w ∷ ts) = nat_lt d nesting_limit && nests_from (suc d) ts
nests_from zero (sign sign.Close ∷ ts) = true
nests_from (suc d) (sign sign.Close ∷ ts) = nests_from d ts
nests_from d (t ∷ ts) = nests_from d ts

abbrev pub nests : List Token → Bool
nests = nests_from 0
