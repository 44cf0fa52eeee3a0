use Rattle.std.proofs.Common.{◌≡◌, map, drop, option_map}
use Rattle.vortex_types.specs.TypeOf.{type_of}
use Rattle.vortex_expressions.specs.Items.{item_in, literals_type}
use Rattle.vortex_expressions.proofs.item.literals_type.Given as goal

abbrev pub invariant-loop-item : goal.invariant-loop-item
invariant-loop-item l =
    literals_type (option_map (λ t. type_of t) l.fn.found) (map item_in l.items)
    ≡ literals_type (option_map (λ t. type_of t) l.taken)
    (map item_in (drop l.item-index l.items))
