-- Bits of integers: and, or, exclusive or, not, and shifts.
use Rattle.std.specs.Prelude.{◌≡◌, ◌-ℤ◌, codes, ℕ, ℤ, pos, negsuc, List, Bool, true, false, refl}
use Rattle.std.specs.Prelude.{None, get_or, int_lt, not, unsigned_abs, if◌then◌else◌}
use Rattle.std.specs.Int.{w128, int_bit_and, int_bit_or, int_bit_xor, int_rem_euclid, int_shl, int_shr}
use Rattle.std.proofs.Common.{cond}
use Rattle.vortex_checked.specs.Exact.{is_outside}
use Rattle.vortex_types.specs.declared.dtype.PType.{PType}
use Rattle.vortex_types.specs.declared.dtype.PType.TheVariants.{I8, I16, I32, I64, U8, U16, U32}
use Rattle.vortex_types.specs.declared.dtype.PType.TheVariants.{U64}
use Rattle.vortex_types.specs.Typing.{greatest_of}
use Rattle.vortex_types.specs.LogicalTypes.{integer_type}
use Rattle.vortex_interface.specs.Outcomes.{Outcome, GivesType}
use Rattle.vortex_sql_numbers.specs.declared.bits.BitOperator.{BitOperator}
use Rattle.vortex_sql_numbers.specs.declared.bits.BitOperator.TheVariants.{And, Or, Xor}
use Rattle.vortex_sql_numbers.specs.declared.bits.Shift.{Shift}
use Rattle.vortex_sql_numbers.specs.declared.bits.Shift.TheVariants.{Left, Right}
use Rattle.vortex_sql_rows.specs.declared.faults.RowFault.TheVariants.{IntegerOutOfRange, ShiftCount}
use Rattle.vortex_sql_rows.specs.declared.types.Gives.TheVariants as answer
use Rattle.vortex_sql_rows.specs.declared.types.Kind.TheVariants.{Integer}
use Rattle.vortex_sql_rows.specs.declared.types.Takes.TheVariants.{Alike}
use Rattle.vortex_sql_rows.specs.Integers.{checked, checked_fits, int_or_fault}
use Rattle.vortex_sql_rows.specs.Row.{Row, LawfulRow}
use Rattle.vortex_sql_rows.specs.Shapes.{strict_row, one_int, one_int_lawful, two_ints}
use Rattle.vortex_sql_rows.specs.Shapes.{two_ints_lawful}

-- of two numbers as words of 128 bits in two's complement
abbrev pub bits_by : BitOperator → ℤ → ℤ → ℤ
bits_by And a b = int_bit_and w128 a b
bits_by Or a b = int_bit_or w128 a b
bits_by Xor a b = int_bit_xor w128 a b

abbrev pub operator_id : BitOperator → List ℕ
operator_id And = codes "sql.bit_and"
operator_id Or = codes "sql.bit_or"
operator_id Xor = codes "sql.bit_xor"

abbrev pub operator_of : BitOperator → PType → ℤ → ℤ → Outcome
operator_of o p a b = int_or_fault IntegerOutOfRange (checked p (bits_by o a b))

abbrev pub operator_row : BitOperator → Row
operator_row o =
    strict_row (operator_id o) 2 (Alike Integer) answer.Alike false (two_ints (operator_of o))

operator_named : (o : BitOperator) → get_or (operator_id o) 0 0 ≡ 115
operator_named And = refl
operator_named Or = refl
operator_named Xor = refl

pub operator_lawful : (o : BitOperator) → LawfulRow (operator_row o)
operator_lawful o =
    two_ints_lawful (operator_id o) Integer answer.Alike false (operator_named o) tt
    (operator_of o) (λ p n a b h k. checked_fits IntegerOutOfRange p (bits_by o a b))
    (λ p a b e h k. cc)

-- the number of the type whose bits are all ones
abbrev pub ones_of : PType → ℤ
ones_of I8 = negsuc 0
ones_of I16 = negsuc 0
ones_of I32 = negsuc 0
ones_of I64 = negsuc 0
ones_of U8 = pos 255
ones_of U16 = pos 65535
ones_of U32 = pos 4294967295
ones_of U64 = pos 18446744073709551615

abbrev pub bit_not_of : PType → ℤ → Outcome
bit_not_of p a = operator_of Xor p a (ones_of p)

abbrev pub bit_not_row : Row
bit_not_row =
    strict_row (codes "sql.bit_not") 1 (Alike Integer) answer.Alike false (one_int bit_not_of)

pub bit_not_lawful : LawfulRow bit_not_row
bit_not_lawful =
    one_int_lawful (codes "sql.bit_not") Integer answer.Alike false refl tt bit_not_of
    (λ p n a k h. checked_fits IntegerOutOfRange p (bits_by Xor a (ones_of p))) (λ p a e h. cc)

-- the last place of a bit, and how many numbers the type has
abbrev pub last_place : PType → ℤ
last_place I8 = pos 7
last_place I16 = pos 15
last_place I32 = pos 31
last_place I64 = pos 63
last_place U8 = pos 7
last_place U16 = pos 15
last_place U32 = pos 31
last_place U64 = pos 63

abbrev pub count_of : PType → ℤ
count_of I8 = pos 256
count_of I16 = pos 65536
count_of I32 = pos 4294967296
count_of I64 = pos 18446744073709551616
count_of U8 = pos 256
count_of U16 = pos 65536
count_of U32 = pos 4294967296
count_of U64 = pos 18446744073709551616

-- the number of the type that differs by a multiple of their count: the one with the same lowest bits
abbrev pub least_rest : PType → ℤ → ℤ
least_rest p r = if int_lt (greatest_of p) r then r -ℤ count_of p else r

abbrev pub lowest_bits : PType → ℤ → ℤ
lowest_bits p z = least_rest p (int_rem_euclid z (count_of p))

-- Left: bits beyond the type are dropped. Right: the sign is kept.
abbrev pub shifted : Shift → PType → ℤ → ℕ → ℤ
shifted Left p a n = lowest_bits p (int_shl w128 a n)
shifted Right p a n = int_shr a n

-- the type has that place
abbrev pub is_place : PType → ℤ → Bool
is_place p n = not (is_outside (pos 0) (last_place p) n)

-- by fewer than zero places, or by as many as the type has or more: a fault
abbrev pub shift_of : Shift → PType → ℤ → ℤ → Outcome
shift_of s p a n =
    if is_place p n then int_or_fault IntegerOutOfRange (checked p (shifted s p a (unsigned_abs n)))
    else int_or_fault ShiftCount None

abbrev pub shift_id : Shift → List ℕ
shift_id Left = codes "sql.shift_left"
shift_id Right = codes "sql.shift_right"

abbrev pub shift_row : Shift → Row
shift_row s =
    strict_row (shift_id s) 2 (Alike Integer) answer.Alike false (two_ints (shift_of s))

shift_named : (s : Shift) → get_or (shift_id s) 0 0 ≡ 115
shift_named Left = refl
shift_named Right = refl

or_fault : (b : Bool) (p : PType) (z : ℤ)
    → GivesType (integer_type p false)
    (cond b (int_or_fault IntegerOutOfRange (checked p z)) (int_or_fault ShiftCount None))
or_fault true p z = checked_fits IntegerOutOfRange p z
or_fault false p z = tt

pub shift_lawful : (s : Shift) → LawfulRow (shift_row s)
shift_lawful s =
    two_ints_lawful (shift_id s) Integer answer.Alike false (shift_named s) tt (shift_of s)
    (λ p n a b h k. or_fault (is_place p b) p (shifted s p a (unsigned_abs b)))
    (λ p a b e h k. cc)
