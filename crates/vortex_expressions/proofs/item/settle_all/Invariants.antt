use Rattle.std.proofs.Common.{option_map}
use Rattle.vortex_types.specs.TypeOf.{type_of}
use Rattle.vortex_expressions.proofs.Settling.{SoFar}
use Rattle.vortex_expressions.proofs.item.settle_all.Given as goal

abbrev pub invariant-loop-item : goal.invariant-loop-item
invariant-loop-item l =
    SoFar (option_map (λ t. type_of t.now) l.beside) l.items l.item-index l.trees.items
