use Rattle.std.proofs.Common.{◌+◌, ◌≤◌, arith, rules}
use Rattle.vortex_types.specs.TypeParts.{type_weight, type_weights, weight_within}
use Rattle.vortex_types.specs.declared.dtype.DType.{the_lemmas}
use Rattle.vortex_types.proofs.TypeWeights.{weights}
use Rattle.vortex_types.proofs.dtype.DType.+drop.Goals.{in-Some-One, in-Some-Two}
use Rattle.vortex_types.proofs.dtype.DType.+drop.Goals.{in-Some-Many}
use Rattle.vortex_types.proofs.dtype.DType.+drop.Goals.{in-None-next+in-Some-pop-2}
use Rattle.vortex_types.proofs.dtype.DType.+drop.Goals as goal

pub loop-next-smaller : goal.loop-next-smaller
loop-next-smaller t c =
    let less : type_weight c.match-next.here + type_weights c.match-next.list.items
    ≤ weight_within c.loop-next.next + type_weights c.loop-next.list.items =
    elim c.match-next.branch [
      | in-Some-One w ↦ search (rules, weights, the_lemmas)
      | in-Some-Two w ↦ search (rules, weights, the_lemmas)
      | in-Some-Many w ↦ search (rules, weights, the_lemmas)
      | in-None-next+in-Some-pop-2 w ↦ search (rules, weights, the_lemmas)
    ] in
    omega (arith, less, c.within-next.ensures.fewer)
