-- Pairs of types that are still to be compared.
use Rattle.std.specs.Prelude.{Bool, ℕ, List, ◌∷◌, Option, Some, None}
use Rattle.std.specs.List.{list_all, sum_by}
use Rattle.vortex_types.specs.declared.dtype.pairs.Pair.{Pair}
use Rattle.vortex_types.specs.declared.dtype.pairs.Pairs.{Pairs}
use Rattle.vortex_types.specs.Agreement.{types_agree}
use Rattle.vortex_types.specs.TypeOf.{type_of}
use Rattle.vortex_types.specs.TypeParts.{type_weight}

abbrev pub pair_agrees : Bool → Pair → Bool
pair_agrees e p = types_agree e (type_of p.own.now) (type_of p.other.now)

abbrev pub all_agree : Bool → List Pair → Bool
all_agree e = list_all (pair_agrees e)

abbrev pub weight_of : List Pair → ℕ
weight_of = sum_by (λ p. type_weight p.own.now)

-- the current pair, before the others
abbrev pub with_first : Option Pair → List Pair → List Pair
with_first None ps = ps
with_first (Some p) ps = p ∷ ps

abbrev pub waiting : Pairs → List Pair
waiting ps = with_first ps.first ps.others.items
