use Rattle.std.proofs.Common.{◌≡◌, map, take}
use Rattle.std.specs.Cow.{cow_value}
use Rattle.vortex_types.specs.TypeOf.{type_of}
use Rattle.vortex_interface.specs.Outcomes.{types_in}
use Rattle.vortex_arrays.proofs.dictionary.inputs.dtypes_of.Given as goal

abbrev pub invariant-loop-input : goal.invariant-loop-input
invariant-loop-input l =
    map type_of l.dtypes.items ≡ types_in (map cow_value (take l.input-index l.inputs))
