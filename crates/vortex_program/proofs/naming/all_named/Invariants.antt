use Rattle.std.proofs.Common.{map, take}
use Rattle.vortex_types.specs.TypeOf.{struct_fields}
use Rattle.vortex_functions.specs.Walks.{AllMean}
use Rattle.vortex_expressions.specs.Answers.{answer_in}
use Rattle.vortex_program.specs.Naming.{IsNamedAnswer, worded}
use Rattle.vortex_program.proofs.naming.all_named.Given as goal

-- the answers so far
abbrev pub invariant-loop-i : goal.invariant-loop-i
invariant-loop-i l =
    AllMean (IsNamedAnswer (struct_fields l.scope))
    (take l.i (worded (map answer_in l.list) (map (λ w. w.items) l.words))) l.answers.items
