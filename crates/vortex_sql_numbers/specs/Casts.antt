-- Casts: from integers to an integer type, with a fault where it does not have the number, or
-- where it has all; from truth values and back; from a truth value to text.
use Rattle.std.specs.Prelude.{◌≡◌, codes, Bool, true, false, not, ℕ, ℤ, pos, List, refl}
use Rattle.std.specs.Prelude.{if◌then◌else◌, IsUtf8, get_or}
use Rattle.std.specs.Ordering.{int_eq}
use Rattle.std.proofs.Common.{arith, rules}
use Rattle.std.proofs.lemmas.Int.{ints}
use Rattle.std.proofs.lemmas.Str.{IsUtf8-from_ascii}
use Rattle.vortex_types.specs.declared.dtype.PType.{PType}
use Rattle.vortex_types.specs.declared.dtype.PType.TheVariants.{I8, I16, I32, I64, U8, U16, U32}
use Rattle.vortex_types.specs.declared.dtype.PType.TheVariants.{U64}
use Rattle.vortex_types.specs.LogicalTypes.{integer_type}
use Rattle.vortex_types.specs.Typing.{HasType}
use Rattle.vortex_types.specs.Values.{number, text, truth}
use Rattle.vortex_interface.specs.Outcomes.{Outcome, gives}
use Rattle.vortex_sql_rows.specs.declared.faults.RowFault.TheVariants.{OutOfRange}
use Rattle.vortex_sql_rows.specs.declared.types.Gives.TheVariants as answer
use Rattle.vortex_sql_rows.specs.declared.types.Kind.TheVariants.{Integer, Within, Truth}
use Rattle.vortex_sql_rows.specs.declared.types.Takes.TheVariants.{Alike}
use Rattle.vortex_sql_rows.specs.Integers.{checked, checked_fits, wide_fits, int_or_fault}
use Rattle.vortex_sql_rows.specs.Row.{Row, LawfulRow}
use Rattle.vortex_sql_rows.specs.Shapes.{strict_row, one_int, one_int_lawful, one_truth}
use Rattle.vortex_sql_rows.specs.Shapes.{one_truth_lawful}

-- to a type that may not have the number
abbrev pub cast_id : PType → List ℕ
cast_id I8 = codes "sql.to_i8"
cast_id I16 = codes "sql.to_i16"
cast_id I32 = codes "sql.to_i32"
cast_id I64 = codes "sql.to_i64"
cast_id U8 = codes "sql.to_u8"
cast_id U16 = codes "sql.to_u16"
cast_id U32 = codes "sql.to_u32"
cast_id U64 = codes "sql.to_u64"

abbrev pub cast_to : PType → PType → ℤ → Outcome
cast_to q p z = int_or_fault (OutOfRange q) (checked q z)

abbrev pub cast_row : PType → Row
cast_row q =
    strict_row (cast_id q) 1 (Alike Integer) (answer.Integer q) false (one_int (cast_to q))

cast_named : (q : PType) → get_or (cast_id q) 0 0 ≡ 115
cast_named I8 = refl
cast_named I16 = refl
cast_named I32 = refl
cast_named I64 = refl
cast_named U8 = refl
cast_named U16 = refl
cast_named U32 = refl
cast_named U64 = refl

pub cast_lawful : (q : PType) → LawfulRow (cast_row q)
cast_lawful q =
    one_int_lawful (cast_id q) Integer (answer.Integer q) false (cast_named q) tt (cast_to q)
    (λ p n z k h. checked_fits (OutOfRange q) q z) (λ p z e h. cc)

-- from a type that has no number but those of the result's
abbrev pub widen_id : PType → List ℕ
widen_id I8 = codes "sql.widen_i8"
widen_id I16 = codes "sql.widen_i16"
widen_id I32 = codes "sql.widen_i32"
widen_id I64 = codes "sql.widen_i64"
widen_id U8 = codes "sql.widen_u8"
widen_id U16 = codes "sql.widen_u16"
widen_id U32 = codes "sql.widen_u32"
widen_id U64 = codes "sql.widen_u64"

abbrev pub widen_row : PType → Row
widen_row q =
    strict_row (widen_id q) 1 (Alike (Within q)) (answer.Integer q) true
    (one_int (λ p z. gives (number z)))

widen_named : (q : PType) → get_or (widen_id q) 0 0 ≡ 115
widen_named I8 = refl
widen_named I16 = refl
widen_named I32 = refl
widen_named I64 = refl
widen_named U8 = refl
widen_named U16 = refl
widen_named U32 = refl
widen_named U64 = refl

pub widen_lawful : (q : PType) → LawfulRow (widen_row q)
widen_lawful q =
    one_int_lawful (widen_id q) (Within q) (answer.Integer q) true (widen_named q) tt
    (λ p z. gives (number z)) (λ p n z k h. wide_fits q p z k h) (λ p z e h. tt)

-- 1 where it is true, else 0
abbrev pub truth_id : PType → List ℕ
truth_id I8 = codes "sql.bool_to_i8"
truth_id I16 = codes "sql.bool_to_i16"
truth_id I32 = codes "sql.bool_to_i32"
truth_id I64 = codes "sql.bool_to_i64"
truth_id U8 = codes "sql.bool_to_u8"
truth_id U16 = codes "sql.bool_to_u16"
truth_id U32 = codes "sql.bool_to_u32"
truth_id U64 = codes "sql.bool_to_u64"

abbrev pub truth_number : Bool → ℤ
truth_number b = if b then pos 1 else pos 0

abbrev pub truth_row : PType → Row
truth_row q =
    strict_row (truth_id q) 1 (Alike Truth) (answer.Integer q) true
    (one_truth (λ b. gives (number (truth_number b))))

truth_named : (q : PType) → get_or (truth_id q) 0 0 ≡ 115
truth_named I8 = refl
truth_named I16 = refl
truth_named I32 = refl
truth_named I64 = refl
truth_named U8 = refl
truth_named U16 = refl
truth_named U32 = refl
truth_named U64 = refl

bit_fits : (q : PType) (b : Bool) → HasType (integer_type q false) (number (truth_number b))
bit_fits I8 true = (omega (arith, ints), omega (arith, ints))
bit_fits I8 false = (omega (arith, ints), omega (arith, ints))
bit_fits I16 true = (omega (arith, ints), omega (arith, ints))
bit_fits I16 false = (omega (arith, ints), omega (arith, ints))
bit_fits I32 true = (omega (arith, ints), omega (arith, ints))
bit_fits I32 false = (omega (arith, ints), omega (arith, ints))
bit_fits I64 true = (omega (arith, ints), omega (arith, ints))
bit_fits I64 false = (omega (arith, ints), omega (arith, ints))
bit_fits U8 true = (omega (arith, ints), omega (arith, ints))
bit_fits U8 false = (omega (arith, ints), omega (arith, ints))
bit_fits U16 true = (omega (arith, ints), omega (arith, ints))
bit_fits U16 false = (omega (arith, ints), omega (arith, ints))
bit_fits U32 true = (omega (arith, ints), omega (arith, ints))
bit_fits U32 false = (omega (arith, ints), omega (arith, ints))
bit_fits U64 true = (omega (arith, ints), omega (arith, ints))
bit_fits U64 false = (omega (arith, ints), omega (arith, ints))

pub truth_lawful : (q : PType) → LawfulRow (truth_row q)
truth_lawful q =
    one_truth_lawful (truth_id q) (answer.Integer q) true (truth_named q)
    (λ b. gives (number (truth_number b))) (λ n b. bit_fits q b) (λ b e. tt)

-- whether an integer is not zero
abbrev pub is_nonzero : ℤ → Bool
is_nonzero z = not (int_eq z (pos 0))

abbrev pub nonzero_row : Row
nonzero_row =
    strict_row (codes "sql.int_to_bool") 1 (Alike Integer) answer.Truth true
    (one_int (λ p z. gives (truth (is_nonzero z))))

pub nonzero_lawful : LawfulRow nonzero_row
nonzero_lawful =
    one_int_lawful (codes "sql.int_to_bool") Integer answer.Truth true refl tt
    (λ p z. gives (truth (is_nonzero z))) (λ p n z k h. tt) (λ p z e h. tt)

-- `true` or `false`
abbrev pub truth_word : Bool → List ℕ
truth_word b = if b then codes "true" else codes "false"

abbrev pub truth_word_row : Row
truth_word_row =
    strict_row (codes "sql.bool_to_utf8") 1 (Alike Truth) answer.Text true
    (one_truth (λ b. gives (text (truth_word b))))

word_is_text : (b : Bool) → IsUtf8 (truth_word b)
word_is_text true = IsUtf8-from_ascii _ (search rules)
word_is_text false = IsUtf8-from_ascii _ (search rules)

pub truth_word_lawful : LawfulRow truth_word_row
truth_word_lawful =
    one_truth_lawful (codes "sql.bool_to_utf8") answer.Text true refl
    (λ b. gives (text (truth_word b))) (λ n b. word_is_text b) (λ b e. tt)
