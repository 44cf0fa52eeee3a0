-- The casts that are tried: their names, and that they may be.
use Rattle.std.specs.Prelude.{◌≡◌, ℕ, List, codes, get_or, refl}
use Rattle.vortex_types.specs.declared.dtype.PType.{PType}
use Rattle.vortex_types.specs.declared.dtype.PType.TheVariants.{I8, I16, I32, I64, U8, U16, U32}
use Rattle.vortex_types.specs.declared.dtype.PType.TheVariants.{U64}
use Rattle.vortex_sql_floats.specs.ToIntegers.{to_int_row, to_int_lawful}
use Rattle.vortex_sql_numbers.specs.Casts.{cast_row, cast_lawful}
use Rattle.vortex_sql_texts.specs.TextCasts.{int_cast_row, int_cast_lawful, truth_cast_row}
use Rattle.vortex_sql_texts.specs.TextCasts.{truth_cast_lawful}
use Rattle.vortex_sql_rows.specs.Row.{Row, LawfulRow}
use Rattle.vortex_sql_try_casts.specs.TriedRows.{MayTry, tried_row, tried_lawful}

-- of an integer: null where the type does not have it
abbrev pub try_cast_id : PType → List ℕ
try_cast_id I8 = codes "sql.try_to_i8"
try_cast_id I16 = codes "sql.try_to_i16"
try_cast_id I32 = codes "sql.try_to_i32"
try_cast_id I64 = codes "sql.try_to_i64"
try_cast_id U8 = codes "sql.try_to_u8"
try_cast_id U16 = codes "sql.try_to_u16"
try_cast_id U32 = codes "sql.try_to_u32"
try_cast_id U64 = codes "sql.try_to_u64"

abbrev pub try_cast_row : PType → Row
try_cast_row q = tried_row (try_cast_id q) (cast_row q)

try_cast_named : (q : PType) → get_or (try_cast_id q) 0 0 ≡ 115
try_cast_named I8 = refl
try_cast_named I16 = refl
try_cast_named I32 = refl
try_cast_named I64 = refl
try_cast_named U8 = refl
try_cast_named U16 = refl
try_cast_named U32 = refl
try_cast_named U64 = refl

pub may_try_cast : (q : PType) → MayTry (try_cast_id q) (cast_row q)
may_try_cast q = record { named = try_cast_named q; single = λ t. refl }

pub try_cast_lawful : (q : PType) → LawfulRow (try_cast_row q)
try_cast_lawful q = tried_lawful (try_cast_id q) (cast_row q) (may_try_cast q) (cast_lawful q)

-- of a text to an integer: null where it is no number of the type
abbrev pub try_text_id : PType → List ℕ
try_text_id I8 = codes "sql.try_utf8_to_i8"
try_text_id I16 = codes "sql.try_utf8_to_i16"
try_text_id I32 = codes "sql.try_utf8_to_i32"
try_text_id I64 = codes "sql.try_utf8_to_i64"
try_text_id U8 = codes "sql.try_utf8_to_u8"
try_text_id U16 = codes "sql.try_utf8_to_u16"
try_text_id U32 = codes "sql.try_utf8_to_u32"
try_text_id U64 = codes "sql.try_utf8_to_u64"

abbrev pub try_text_row : PType → Row
try_text_row q = tried_row (try_text_id q) (int_cast_row q)

try_text_named : (q : PType) → get_or (try_text_id q) 0 0 ≡ 115
try_text_named I8 = refl
try_text_named I16 = refl
try_text_named I32 = refl
try_text_named I64 = refl
try_text_named U8 = refl
try_text_named U16 = refl
try_text_named U32 = refl
try_text_named U64 = refl

pub may_try_text : (q : PType) → MayTry (try_text_id q) (int_cast_row q)
may_try_text q = record { named = try_text_named q; single = λ t. refl }

pub try_text_lawful : (q : PType) → LawfulRow (try_text_row q)
try_text_lawful q = tried_lawful (try_text_id q) (int_cast_row q) (may_try_text q) (int_cast_lawful q)

-- of a float: null where the type does not have the nearest integer
abbrev pub try_float_id : PType → List ℕ
try_float_id I8 = codes "sql.try_float_to_i8"
try_float_id I16 = codes "sql.try_float_to_i16"
try_float_id I32 = codes "sql.try_float_to_i32"
try_float_id I64 = codes "sql.try_float_to_i64"
try_float_id U8 = codes "sql.try_float_to_u8"
try_float_id U16 = codes "sql.try_float_to_u16"
try_float_id U32 = codes "sql.try_float_to_u32"
try_float_id U64 = codes "sql.try_float_to_u64"

abbrev pub try_float_row : PType → Row
try_float_row q = tried_row (try_float_id q) (to_int_row q)

try_float_named : (q : PType) → get_or (try_float_id q) 0 0 ≡ 115
try_float_named I8 = refl
try_float_named I16 = refl
try_float_named I32 = refl
try_float_named I64 = refl
try_float_named U8 = refl
try_float_named U16 = refl
try_float_named U32 = refl
try_float_named U64 = refl

pub may_try_float : (q : PType) → MayTry (try_float_id q) (to_int_row q)
may_try_float q = record { named = try_float_named q; single = λ t. refl }

pub try_float_lawful : (q : PType) → LawfulRow (try_float_row q)
try_float_lawful q = tried_lawful (try_float_id q) (to_int_row q) (may_try_float q) (to_int_lawful q)

-- of a text to a truth value: null where it is none
abbrev pub try_truth_id : List ℕ
try_truth_id = codes "sql.try_utf8_to_bool"

abbrev pub try_truth_row : Row
try_truth_row = tried_row try_truth_id truth_cast_row

pub may_try_truth : MayTry try_truth_id truth_cast_row
may_try_truth = record { named = refl; single = λ t. refl }

pub try_truth_lawful : LawfulRow try_truth_row
try_truth_lawful = tried_lawful try_truth_id truth_cast_row may_try_truth truth_cast_lawful
