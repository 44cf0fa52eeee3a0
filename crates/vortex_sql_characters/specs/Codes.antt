-- Characters and their numbers: `ascii` and `chr`.
use Rattle.std.specs.Prelude.{◌≡◌, ◌<◌, ◌&&◌, codes, ℕ, ℤ, pos, negsuc, List, [], ◌∷◌, Bool, true}
use Rattle.std.specs.Prelude.{false, chars, if◌then◌else◌, nat_le, refl, unsigned_abs}
use lib.Utf8.{scalar, scalars, scalar_cases}
use Rattle.std.specs.Char.{encode_utf8}
use Rattle.std.proofs.Common.{arith, cond, ⊎_elim}
use Rattle.std.proofs.lemmas.Bool.{and_parts}
use Rattle.std.proofs.lemmas.Int.{ints}
use Rattle.std.proofs.lemmas.Str.{IsUtf8-encode, scalars-chars}
use Rattle.vortex_types.specs.declared.dtype.PType.TheVariants.{I64}
use Rattle.vortex_types.specs.LogicalTypes.{text_type}
use Rattle.vortex_types.specs.Typing.{FitsPType}
use Rattle.vortex_types.specs.Values.{number, text}
use Rattle.vortex_interface.specs.Outcomes.{Outcome, custom, faults, gives, GivesType}
use Rattle.vortex_sql_rows.specs.declared.types.Gives.TheVariants as answer
use Rattle.vortex_sql_rows.specs.declared.types.Kind.TheVariants.{Integer, Text}
use Rattle.vortex_sql_rows.specs.declared.types.Takes.TheVariants.{Alike}
use Rattle.vortex_sql_rows.specs.Row.{Row, LawfulRow}
use Rattle.vortex_sql_rows.specs.Shapes.{one_int, one_int_lawful, one_text, one_text_lawful}
use Rattle.vortex_sql_rows.specs.Shapes.{strict_row}
use Rattle.vortex_sql_characters.specs.CharacterFaults.{no_character}

-- the number of the first character; where there is none zero
abbrev pub first_code : List ℕ → ℕ
first_code [] = 0
first_code (c ∷ cs) = c

abbrev pub ascii : List ℕ → Outcome
ascii bs = gives (number (pos (first_code (chars bs))))

abbrev pub ascii_row : Row
ascii_row =
    strict_row (codes "sql.ascii") 1 (Alike Text) (answer.Integer I64) true (one_text ascii)

below : (c : ℕ) → scalar c ≡ true → c < 1114112
below c e = ⊎_elim (λ h. omega (arith, h)) (λ h. h.1) (scalar_cases c e)

small_first : (cs : List ℕ) → scalars cs ≡ true → first_code cs < 1114112
small_first [] e = omega arith
small_first (c ∷ cs) e = below c (and_parts _ _ e).0

fits : (n : ℕ) → n < 1114112 → FitsPType I64 (pos n)
fits n h = (omega (arith, ints), omega (arith, ints, h))

pub ascii_lawful : LawfulRow ascii_row
ascii_lawful =
    one_text_lawful (codes "sql.ascii") (answer.Integer I64) true refl ascii
    (λ n bs u. fits (first_code (chars bs)) (small_first (chars bs) (scalars-chars bs u)))
    (λ bs e u. tt)

-- whether a character has the number: a Unicode scalar value that is not zero
abbrev pub has_character : ℤ → Bool
has_character (pos n) = nat_le 1 n && scalar n
has_character (negsuc n) = false

abbrev pub chr : ℤ → Outcome
chr z =
    if has_character z then gives (text (encode_utf8 (unsigned_abs z)))
    else faults (custom no_character)

abbrev pub chr_row : Row
chr_row =
    strict_row (codes "sql.chr") 1 (Alike Integer) answer.Text false (one_int (λ p z. chr z))

chr_fits : (z : ℤ) → GivesType (text_type false) (chr z)
chr_fits z = by z (has_character z) refl
  where
    by : (y : ℤ) (b : Bool) → has_character y ≡ b
        → GivesType (text_type false)
        (cond b (gives (text (encode_utf8 (unsigned_abs y)))) (faults (custom no_character)))
    by (pos n) true e = IsUtf8-encode n (and_parts _ _ e).1
    by (negsuc n) true e = cc
    by y false e = tt

pub chr_lawful : LawfulRow chr_row
chr_lawful =
    one_int_lawful (codes "sql.chr") Integer answer.Text false refl tt (λ p z. chr z)
    (λ p n z k h. chr_fits z) (λ p z e h. cc)
