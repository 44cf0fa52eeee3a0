use Rattle.std.proofs.Common.{◌≡◌, ◌+◌, ◌*◌, ◌≤◌, ◌&&◌, drop}
use Rattle.vortex_types.specs.TypeParts.{type_weight, type_weights}
use Rattle.vortex_types.specs.TypePairs.{all_agree, waiting, weight_of}
use Rattle.vortex_types.proofs.Agreeing.{agree_from}
use Rattle.vortex_types.proofs.dtype.pairs.Pairs.+agree.Given as goal

-- the remaining fields and pairs agree exactly where all do
abbrev pub invariant-put_fields-loop-k : goal.invariant-put_fields-loop-k
invariant-put_fields-loop-k l =
    ((agree_from l.exactly l.k l.own.fields.items l.other.fields.items
    && all_agree l.exactly (waiting l.self))
    ≡ (agree_from l.exactly 0 l.own.fields.items l.other.fields.items
    && all_agree l.exactly (waiting l.fn.self)))
    × (weight_of (waiting l.self) + type_weights (drop l.k l.own.fields.items)
    ≤ weight_of (waiting l.fn.self) + type_weights l.own.fields.items)

-- the number of types; and for a type, the recursion order
abbrev pub decreases-put : goal.decreases-put
decreases-put l = 2 * type_weight l.own.now + 1

abbrev pub decreases-step : goal.decreases-step
decreases-step l = 2 * type_weight l.pair.own.now

abbrev pub decreases-put_fields : goal.decreases-put_fields
decreases-put_fields l = 2 * type_weights l.own.now.fields.items
