-- So many blanks: `space`.
use Rattle.std.specs.Prelude.{codes, ℕ, zero, suc, ℤ, pos, List, Bool, true, false, IsUtf8, int_lt}
use Rattle.std.specs.Prelude.{if◌then◌else◌, refl}
use Rattle.std.specs.Char.{encode_utf8}
use Rattle.std.specs.List as list
use Rattle.std.proofs.Common.{cond}
use Rattle.std.proofs.lemmas.Str.{IsUtf8-append, IsUtf8-encode, IsUtf8-nil}
use Rattle.vortex_types.specs.LogicalTypes.{text_type}
use Rattle.vortex_types.specs.Values.{text}
use Rattle.vortex_interface.specs.Outcomes.{Outcome, gives, GivesType}
use Rattle.vortex_sql_rows.specs.declared.faults.RowFault.TheVariants.{TextTooLong}
use Rattle.vortex_sql_rows.specs.declared.types.Gives.TheVariants as answer
use Rattle.vortex_sql_rows.specs.declared.types.Kind.TheVariants.{Integer}
use Rattle.vortex_sql_rows.specs.declared.types.Takes.TheVariants.{Alike}
use Rattle.vortex_sql_rows.specs.Faults.{faults_by}
use Rattle.vortex_sql_rows.specs.Row.{Row, LawfulRow}
use Rattle.vortex_sql_rows.specs.Shapes.{one_int, one_int_lawful, strict_row}
use Rattle.vortex_sql_texts.specs.Characters.{at_least_zero}

abbrev pub blanks : ℕ → List ℕ
blanks n = list.repeat n (codes " ")

-- none where the number is negative; a fault where a text may not have as many
abbrev pub space : ℤ → Outcome
space z =
    if int_lt (pos 4294967295) z then faults_by TextTooLong
    else gives (text (blanks (at_least_zero z)))

abbrev pub space_row : Row
space_row =
    strict_row (codes "sql.space") 1 (Alike Integer) answer.Text false (one_int (λ p z. space z))

blanks_are_text : (n : ℕ) → IsUtf8 (blanks n)
unfolding encode_utf8
blanks_are_text zero = IsUtf8-nil
blanks_are_text (suc n) =
    IsUtf8-append (codes " ") (blanks n) (IsUtf8-encode 32 refl) (blanks_are_text n)

space_fits : (b : Bool) (bs : List ℕ) → IsUtf8 bs
    → GivesType (text_type false) (cond b (faults_by TextTooLong) (gives (text bs)))
space_fits true bs u = tt
space_fits false bs u = u

pub space_lawful : LawfulRow space_row
space_lawful =
    one_int_lawful (codes "sql.space") Integer answer.Text false refl tt (λ p z. space z)
    (λ p n z k h.
    space_fits (int_lt (pos 4294967295) z) (blanks (at_least_zero z))
    (blanks_are_text (at_least_zero z)))
    (λ p z e h. cc)
