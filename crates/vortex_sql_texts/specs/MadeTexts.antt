-- Texts in lower and upper case, two texts in one, and the text of an integer.
use Rattle.std.specs.Prelude.{◌≡◌, ◌<◌, ◌&&◌, ◌++◌, codes, ℕ, ℤ, List, true, false, refl, length, nat_le}
use Rattle.std.specs.Prelude.{get_or, if◌then◌else◌, Bool}
use Rattle.std.specs.Fmt.{signed_decimal}
use Rattle.std.specs.Str.{is_utf8}
use Rattle.std.specs.StrCase.Lower.{str_to_lowercase}
use Rattle.std.specs.StrCase.Upper.{str_to_uppercase}
use Rattle.std.proofs.Common.{cond}
use Rattle.std.proofs.lemmas.Str.{IsUtf8-from_is_utf8}
use Rattle.vortex_errors.specs.declared.error.VortexError.{VortexError}
use Rattle.vortex_errors.specs.declared.error.VortexError.TheVariants.{Custom}
use Rattle.vortex_types.specs.declared.dtype.PType.{PType}
use Rattle.vortex_types.specs.LogicalTypes.{text_type}
use Rattle.vortex_types.specs.Values.{text}
use Rattle.vortex_interface.specs.Outcomes.{Outcome, gives, GivesType}
use Rattle.vortex_sql_rows.specs.declared.faults.RowFault.TheVariants.{TextTooLong}
use Rattle.vortex_sql_texts.specs.declared.letters.Letters.{Letters}
use Rattle.vortex_sql_texts.specs.declared.letters.Letters.TheVariants.{Lower, Upper}
use Rattle.vortex_sql_rows.specs.declared.types.Gives.TheVariants as answer
use Rattle.vortex_sql_rows.specs.declared.types.Kind.TheVariants.{Text, Integer}
use Rattle.vortex_sql_rows.specs.declared.types.Takes.TheVariants.{Alike}
use Rattle.vortex_sql_rows.specs.Faults.{fault_number, faults_by}
use Rattle.vortex_sql_rows.specs.Laws.{and_left}
use Rattle.vortex_sql_rows.specs.Row.{Row, LawfulRow}
use Rattle.vortex_sql_rows.specs.Shapes.{strict_row, one_text, one_text_lawful, two_texts}
use Rattle.vortex_sql_rows.specs.Shapes.{two_texts_lawful, one_int, one_int_lawful}

-- the bytes are UTF-8, and a text may have as many
abbrev pub may_be_text : List ℕ → Bool
may_be_text bs = is_utf8 bs && nat_le (length bs) 4294967295

-- the text of these bytes, or a fault where they are too many
abbrev pub text_or_fault : List ℕ → Outcome
text_or_fault bs = if may_be_text bs then gives (text bs) else faults_by TextTooLong

-- the error of bytes that are more than those of a text
abbrev pub IsTooLong : List ℕ → VortexError → Type 0
IsTooLong bs e = (4294967295 < length bs) × (e ≡ Custom (fault_number TextTooLong))

pub made_fits : (bs : List ℕ) → GivesType (text_type false) (text_or_fault bs)
made_fits bs = by (may_be_text bs) refl
  where
    by : (b : Bool) → may_be_text bs ≡ b
        → GivesType (text_type false) (cond b (gives (text bs)) (faults_by TextTooLong))
    by true e = IsUtf8-from_is_utf8 bs (and_left (is_utf8 bs) (nat_le (length bs) 4294967295) e)
    by false e = tt

-- by the full mapping of Unicode
abbrev pub in_letters : Letters → List ℕ → List ℕ
in_letters Lower bs = str_to_lowercase bs
in_letters Upper bs = str_to_uppercase bs

abbrev pub letters_id : Letters → List ℕ
letters_id Lower = codes "sql.lower"
letters_id Upper = codes "sql.upper"

abbrev pub letters_of : Letters → List ℕ → Outcome
letters_of l bs = text_or_fault (in_letters l bs)

abbrev pub letters_row : Letters → Row
letters_row l =
    strict_row (letters_id l) 1 (Alike Text) answer.Text false (one_text (letters_of l))

letters_named : (l : Letters) → get_or (letters_id l) 0 0 ≡ 115
letters_named Lower = refl
letters_named Upper = refl

pub letters_lawful : (l : Letters) → LawfulRow (letters_row l)
letters_lawful l =
    one_text_lawful (letters_id l) answer.Text false (letters_named l) (letters_of l)
    (λ n bs u. made_fits (in_letters l bs)) (λ bs e u. cc)

-- the second text after the first
abbrev pub joined : List ℕ → List ℕ → Outcome
joined bs cs = text_or_fault (bs ++ cs)

abbrev pub concat_row : Row
concat_row =
    strict_row (codes "sql.textcat") 2 (Alike Text) answer.Text false (two_texts joined)

pub concat_lawful : LawfulRow concat_row
concat_lawful =
    two_texts_lawful (codes "sql.textcat") answer.Text false refl joined
    (λ n bs cs u v. made_fits (bs ++ cs)) (λ bs cs e u v. cc)

-- an integer in decimal digits, with a sign where it is negative
abbrev pub int_text : PType → ℤ → Outcome
int_text p z = text_or_fault (signed_decimal z)

abbrev pub int_text_row : Row
int_text_row =
    strict_row (codes "sql.int_to_utf8") 1 (Alike Integer) answer.Text false (one_int int_text)

pub int_text_lawful : LawfulRow int_text_row
int_text_lawful =
    one_int_lawful (codes "sql.int_to_utf8") Integer answer.Text false refl tt int_text
    (λ p n z k h. made_fits (signed_decimal z)) (λ p z e h. cc)
