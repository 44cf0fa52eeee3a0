use Rattle.std.proofs.Common.{◌≡◌, map, drop, option_map}
use Rattle.vortex_types.specs.TypeOf.{type_of}
use Rattle.vortex_expressions.specs.Meeting.{meeting_type}
use Rattle.vortex_expressions.specs.Items.{item_in, bound_type}
use Rattle.vortex_expressions.proofs.item.meeting_type.Given as goal

abbrev pub invariant-loop-item : goal.invariant-loop-item
invariant-loop-item l =
    meeting_type (option_map (λ t. type_of t) l.fn.found) (map bound_type (map item_in l.items))
    ≡ meeting_type (option_map (λ t. type_of t) l.met)
    (map bound_type (map item_in (drop l.item-index l.items)))
