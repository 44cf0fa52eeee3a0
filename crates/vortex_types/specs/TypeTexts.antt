-- The names of the integer types, in the bytes of UTF-8.
use Rattle.std.specs.Prelude.{ℕ, List, codes}
use Rattle.vortex_types.specs.declared.dtype.PType.{PType}
use Rattle.vortex_types.specs.declared.dtype.PType.TheVariants.{I8, I16, I32, I64, U8, U16, U32}
use Rattle.vortex_types.specs.declared.dtype.PType.TheVariants.{U64}

abbrev pub ptype_text : PType → List ℕ
ptype_text I8 = codes "i8"
ptype_text I16 = codes "i16"
ptype_text I32 = codes "i32"
ptype_text I64 = codes "i64"
ptype_text U8 = codes "u8"
ptype_text U16 = codes "u16"
ptype_text U32 = codes "u32"
ptype_text U64 = codes "u64"
