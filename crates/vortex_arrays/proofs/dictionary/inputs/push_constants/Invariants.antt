use Rattle.std.proofs.Common.{◌≡◌, ◌++◌, map, take}
use Rattle.std.specs.Cow.{cow_value}
use Rattle.vortex_arrays.specs.PushDown.{constants}
use Rattle.vortex_arrays.proofs.dictionary.inputs.push_constants.Given as goal

abbrev pub invariant-loop-scalar : goal.invariant-loop-scalar
invariant-loop-scalar l =
    map cow_value l.inputs.items
    ≡ map cow_value l.initial.inputs.items ++ constants l.rows (take l.scalar-index l.scalars)
