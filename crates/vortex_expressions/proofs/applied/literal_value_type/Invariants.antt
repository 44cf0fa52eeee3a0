use Rattle.std.proofs.Common.{◌≡◌, None, length, map, option_map}
use Rattle.vortex_types.specs.TypeOf.{type_of}
use Rattle.vortex_expressions.specs.Items.{item_in, literals_type}
use Rattle.vortex_expressions.specs.Applied.{values_of}
use Rattle.vortex_expressions.proofs.applied.literal_value_type.Given as goal

abbrev pub invariant-loop-rest : goal.invariant-loop-rest
invariant-loop-rest l =
    literals_type (option_map (λ t. type_of t) l.taken) (values_of (map item_in l.rest))
    ≡ literals_type None (values_of (map item_in l.items))

abbrev pub decreases-loop-rest : goal.decreases-loop-rest
decreases-loop-rest l = length l.rest
