-- Numbers in hexadecimal digits: `to_hex`.
use Rattle.std.specs.Prelude.{◌^◌, codes, ℕ, ℤ, pos, List, false, refl, unsigned_abs}
use Rattle.std.specs.Fmt.{digits}
use Rattle.std.specs.Int.{int_rem_euclid}
use Rattle.vortex_types.specs.declared.dtype.PType.{PType}
use Rattle.vortex_interface.specs.Outcomes.{Outcome}
use Rattle.vortex_sql_rows.specs.declared.types.Gives.TheVariants as answer
use Rattle.vortex_sql_rows.specs.declared.types.Kind.TheVariants.{Integer}
use Rattle.vortex_sql_rows.specs.declared.types.Takes.TheVariants.{Alike}
use Rattle.vortex_sql_rows.specs.Row.{Row, LawfulRow}
use Rattle.vortex_sql_rows.specs.Shapes.{one_int, one_int_lawful, strict_row}
use Rattle.vortex_sql_texts.specs.MadeTexts.{made_fits, text_or_fault}

-- the number modulo 2^64: of a negative one its two's complement of 64 bits
abbrev pub unsigned_number : ℤ → ℕ
unsigned_number z = unsigned_abs (int_rem_euclid z (pos (2 ^ 64)))

-- its digits in base 16, with small letters
abbrev pub in_hex : ℤ → List ℕ
in_hex z = digits 16 false (unsigned_number z)

abbrev pub to_hex : PType → ℤ → Outcome
to_hex p z = text_or_fault (in_hex z)

abbrev pub to_hex_row : Row
to_hex_row = strict_row (codes "sql.to_hex") 1 (Alike Integer) answer.Text false (one_int to_hex)

pub to_hex_lawful : LawfulRow to_hex_row
to_hex_lawful =
    one_int_lawful (codes "sql.to_hex") Integer answer.Text false refl tt to_hex
    (λ p n z k h. made_fits (in_hex z)) (λ p z e h. cc)
