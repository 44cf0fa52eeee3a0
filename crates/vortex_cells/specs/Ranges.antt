-- Whether an integer type holds a number.
use Rattle.std.specs.Prelude.{ℤ, Bool, ◌&&◌}
use Rattle.std.specs.Int.Signed.{le_z}
use Rattle.vortex_types.specs.declared.dtype.PType.{PType}
use Rattle.vortex_types.specs.Typing.{least_of, greatest_of}

abbrev pub in_range : PType → ℤ → Bool
in_range p z = le_z (least_of p) z && le_z z (greatest_of p)
