-- The sign of an integer.
use Rattle.std.specs.Prelude.{codes, true, ℤ, pos, negsuc, zero, suc, refl}
use Rattle.std.proofs.Common.{arith}
use Rattle.std.proofs.lemmas.Int.{ints}
use Rattle.vortex_types.specs.declared.dtype.PType.{PType}
use Rattle.vortex_types.specs.declared.dtype.PType.TheVariants.{I8, I16, I32, I64, U8, U16, U32}
use Rattle.vortex_types.specs.declared.dtype.PType.TheVariants.{U64}
use Rattle.vortex_types.specs.Typing.{FitsPType}
use Rattle.vortex_types.specs.Values.{number}
use Rattle.vortex_interface.specs.Outcomes.{gives}
use Rattle.vortex_sql_rows.specs.declared.types.Gives.TheVariants as answer
use Rattle.vortex_sql_rows.specs.declared.types.Kind.TheVariants.{Integer}
use Rattle.vortex_sql_rows.specs.declared.types.Takes.TheVariants.{Alike}
use Rattle.vortex_sql_rows.specs.Row.{Row, LawfulRow}
use Rattle.vortex_sql_rows.specs.Shapes.{strict_row, one_int, one_int_lawful}

abbrev pub sign_of : ℤ → ℤ
sign_of (pos zero) = pos 0
sign_of (pos (suc n)) = pos 1
sign_of (negsuc n) = negsuc 0

abbrev pub sign_row : Row
sign_row =
    strict_row (codes "sql.sign") 1 (Alike Integer) answer.Alike true
    (one_int (λ p z. gives (number (sign_of z))))

pub zero_fits : (p : PType) → FitsPType p (pos 0)
zero_fits I8 = (omega (arith, ints), omega (arith, ints))
zero_fits I16 = (omega (arith, ints), omega (arith, ints))
zero_fits I32 = (omega (arith, ints), omega (arith, ints))
zero_fits I64 = (omega (arith, ints), omega (arith, ints))
zero_fits U8 = (omega (arith, ints), omega (arith, ints))
zero_fits U16 = (omega (arith, ints), omega (arith, ints))
zero_fits U32 = (omega (arith, ints), omega (arith, ints))
zero_fits U64 = (omega (arith, ints), omega (arith, ints))

-- it lies between zero and the number
sign_fits : (p : PType) (z : ℤ) → FitsPType p z → FitsPType p (sign_of z)
sign_fits p (pos zero) h = h
sign_fits p (pos (suc n)) h = (omega (arith, ints, (zero_fits p).0), omega (arith, ints, h.1))
sign_fits p (negsuc n) h = (omega (arith, ints, h.0), omega (arith, ints, (zero_fits p).1))

pub sign_lawful : LawfulRow sign_row
sign_lawful =
    one_int_lawful (codes "sql.sign") Integer answer.Alike true refl tt
    (λ p z. gives (number (sign_of z))) (λ p n z k h. sign_fits p z h) (λ p z e h. tt)
