-- Decimals as floats of 64 bits: the stored integer over 10 to the power of the scale, rounded
-- once. They cannot fault.
use Rattle.std.specs.Prelude.{◌≡◌, ◌^◌, codes, get_or, ℕ, ℤ, pos, unsigned_abs, List, true, false}
use Rattle.std.specs.Prelude.{if◌then◌else◌, int_lt, nat_eq, Bool, refl}
use Rattle.std.specs.Float.{Float, binary64}
use Rattle.std.proofs.Common.{cond, subst, sym}
use lib.Ieee.{round}
use lib.Ieee.Fits.{round-fits}
use Rattle.vortex_types.specs.declared.dtype.PType.TheVariants.{I64}
use Rattle.vortex_types.specs.LogicalTypes.{integer_type}
use Rattle.vortex_interface.specs.Outcomes.{Outcome, GivesType, GivesValue}
use Rattle.vortex_sql_rows.specs.declared.types.Gives.TheVariants as answer
use Rattle.vortex_sql_rows.specs.declared.types.Kind.TheVariants.{Within}
use Rattle.vortex_sql_rows.specs.declared.types.Takes.TheVariants.{Alike}
use Rattle.vortex_sql_rows.specs.Integers.{checked}
use Rattle.vortex_sql_rows.specs.Row.{Row, LawfulRow}
use Rattle.vortex_sql_rows.specs.Shapes.{strict_row, one_int}
use Rattle.vortex_sql_floats.specs.FloatOutcomes.{gives_float, on_key}
use Rattle.vortex_sql_floats.specs.KeyRanges.{float_fits, is_checked, on_key_fits, one_key_lawful}

-- the float nearest to z / 10 ^ s
abbrev pub decimal_float : ℕ → ℤ → Float
decimal_float s z = round binary64 (int_lt z (pos 0)) (unsigned_abs z) (10 ^ s)

abbrev pub from_stored : ℕ → ℤ → Outcome
from_stored s z = gives_float (decimal_float s z)

abbrev pub from_decimal : ℕ → ℤ → Outcome
from_decimal s z = on_key (from_stored s) (checked I64 z)

abbrev pub decimal_id : ℕ → List ℕ
decimal_id s =
    if nat_eq s 0 then codes "sql.decimal_0_to_float"
    else if nat_eq s 1 then codes "sql.decimal_1_to_float"
    else if nat_eq s 2 then codes "sql.decimal_2_to_float"
    else if nat_eq s 3 then codes "sql.decimal_3_to_float"
    else if nat_eq s 4 then codes "sql.decimal_4_to_float"
    else if nat_eq s 5 then codes "sql.decimal_5_to_float"
    else if nat_eq s 6 then codes "sql.decimal_6_to_float"
    else if nat_eq s 7 then codes "sql.decimal_7_to_float"
    else if nat_eq s 8 then codes "sql.decimal_8_to_float"
    else if nat_eq s 9 then codes "sql.decimal_9_to_float"
    else if nat_eq s 10 then codes "sql.decimal_10_to_float"
    else if nat_eq s 11 then codes "sql.decimal_11_to_float"
    else if nat_eq s 12 then codes "sql.decimal_12_to_float"
    else if nat_eq s 13 then codes "sql.decimal_13_to_float"
    else if nat_eq s 14 then codes "sql.decimal_14_to_float"
    else if nat_eq s 15 then codes "sql.decimal_15_to_float"
    else if nat_eq s 16 then codes "sql.decimal_16_to_float"
    else if nat_eq s 17 then codes "sql.decimal_17_to_float"
    else if nat_eq s 18 then codes "sql.decimal_18_to_float"
    else codes "sql.decimal_to_float"

abbrev pub decimal_row : ℕ → Row
decimal_row s =
    strict_row (decimal_id s) 1 (Alike (Within I64)) (answer.Integer I64) true
    (one_int (λ p. from_decimal s))

-- a text that begins with `s`, whichever is chosen
either_named : (b : Bool) (xs ys : List ℕ) → get_or xs 0 0 ≡ 115 → get_or ys 0 0 ≡ 115
    → get_or (cond b xs ys) 0 0 ≡ 115
either_named true xs ys h k = h
either_named false xs ys h k = k

decimal_named : (s : ℕ) → get_or (decimal_id s) 0 0 ≡ 115
decimal_named s =
    (either_named (nat_eq s 0) _ _ refl
    (either_named (nat_eq s 1) _ _ refl
    (either_named (nat_eq s 2) _ _ refl
    (either_named (nat_eq s 3) _ _ refl
    (either_named (nat_eq s 4) _ _ refl
    (either_named (nat_eq s 5) _ _ refl
    (either_named (nat_eq s 6) _ _ refl
    (either_named (nat_eq s 7) _ _ refl
    (either_named (nat_eq s 8) _ _ refl
    (either_named (nat_eq s 9) _ _ refl
    (either_named (nat_eq s 10) _ _ refl
    (either_named (nat_eq s 11) _ _ refl
    (either_named (nat_eq s 12) _ _ refl
    (either_named (nat_eq s 13) _ _ refl
    (either_named (nat_eq s 14) _ _ refl
    (either_named (nat_eq s 15) _ _ refl
    (either_named (nat_eq s 16) _ _ refl
    (either_named (nat_eq s 17) _ _ refl
    (either_named (nat_eq s 18) _ _ refl
    refl)))))))))))))))))))

stored_fits : (s : ℕ) (z : ℤ) → GivesType (integer_type I64 false) (from_stored s z)
stored_fits s z =
    float_fits (decimal_float s z)
    (round-fits binary64 (int_lt z (pos 0)) (unsigned_abs z) (10 ^ s))

pub decimal_lawful : (s : ℕ) → LawfulRow (decimal_row s)
decimal_lawful s =
    one_key_lawful (decimal_id s) I64 (decimal_named s) (from_decimal s)
    (λ z. on_key_fits (integer_type I64 false) (from_stored s) (stored_fits s) (checked I64 z))
    (λ z h. subst (λ o. GivesValue (on_key (from_stored s) o)) (sym (is_checked I64 z h)) tt)
