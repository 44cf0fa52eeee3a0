-- The integers of a list of one integer type.
use Rattle.std.specs.Prelude.{ℤ, pos, List, map}
use Rattle.vortex_types.specs.declared.ints.Ints.{Ints}
use Rattle.vortex_types.specs.declared.ints.Ints.TheVariants as ints
use Rattle.vortex_types.specs.declared.dtype.PType.{PType}
use Rattle.vortex_types.specs.declared.dtype.PType.TheVariants.{I8, I16, I32, I64, U8, U16, U32}
use Rattle.vortex_types.specs.declared.dtype.PType.TheVariants.{U64}

abbrev pub numbers : Ints → List ℤ
numbers (ints.I8 xs) = map (λ x. x) xs.items
numbers (ints.I16 xs) = map (λ x. x) xs.items
numbers (ints.I32 xs) = map (λ x. x) xs.items
numbers (ints.I64 xs) = map (λ x. x) xs.items
numbers (ints.U8 xs) = map pos xs.items
numbers (ints.U16 xs) = map pos xs.items
numbers (ints.U32 xs) = map pos xs.items
numbers (ints.U64 xs) = map pos xs.items

abbrev pub ptype_of : Ints → PType
ptype_of (ints.I8 xs) = I8
ptype_of (ints.I16 xs) = I16
ptype_of (ints.I32 xs) = I32
ptype_of (ints.I64 xs) = I64
ptype_of (ints.U8 xs) = U8
ptype_of (ints.U16 xs) = U16
ptype_of (ints.U32 xs) = U32
ptype_of (ints.U64 xs) = U64
