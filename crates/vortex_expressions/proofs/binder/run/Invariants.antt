use Rattle.vortex_types.specs.TypeOf.{struct_fields}
use Rattle.vortex_expressions.specs.Calls.{names_in}
use Rattle.vortex_expressions.specs.Stacks.{stack_in}
use Rattle.vortex_expressions.proofs.Walking.{SoFar}
use Rattle.vortex_expressions.proofs.binder.run.Given as goal

abbrev pub invariant-loop-number : goal.invariant-loop-number
invariant-loop-number l =
    SoFar (names_in (struct_fields l.scope) l.kinds) l.steps l.number
    (stack_in l.stack.items.items)
