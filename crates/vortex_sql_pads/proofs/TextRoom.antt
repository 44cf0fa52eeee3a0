-- Texts of as many bytes as a text may have.
use Rattle.std.proofs.Common.{◌≡◌, ◌≤◌, ◌<◌, ℕ, List, length, true, false, refl, ap, cond}
use Rattle.std.specs.Prelude.{IsUtf8, ◌&&◌, nat_le, Bool}
use Rattle.std.specs.Str.{is_utf8}
use Rattle.std.proofs.lemmas.Bool.{le-leb, lt-leb}
use Rattle.std.proofs.lemmas.Str.{is_utf8-from_IsUtf8}
use Rattle.vortex_errors.specs.Answers.{UnlessMemory}
use Rattle.vortex_errors.specs.declared.error.VortexError.{VortexError}
use Rattle.vortex_errors.proofs.Answering.{UnlessMemory-weaker}
use Rattle.vortex_types.specs.Values.{text}
use Rattle.vortex_interface.specs.Outcomes.{custom, gives}
use Rattle.vortex_sql_rows.specs.declared.faults.RowFault.TheVariants.{TextTooLong}
use Rattle.vortex_sql_rows.specs.Faults.{fault_number, faults_by}
use Rattle.vortex_sql_rows.specs.Laws.{both_true}
use Rattle.vortex_sql_rows.specs.Row.{RefusesRow}
use Rattle.vortex_sql_texts.specs.MadeTexts.{IsTooLong, may_be_text, text_or_fault}

pub has_room : (bs : List ℕ) → IsUtf8 bs → length bs ≤ 4294967295 → may_be_text bs ≡ true
has_room bs u h =
    both_true (is_utf8 bs) (nat_le (length bs) 4294967295) (is_utf8-from_IsUtf8 bs u)
    (le-leb (length bs) 4294967295 h)

and_false : (a b : Bool) → b ≡ false → (a && b) ≡ false
and_false true b e = e
and_false false b e = refl

pub has_none : (bs : List ℕ) → 4294967295 < length bs → may_be_text bs ≡ false
has_none bs h =
    and_false (is_utf8 bs) (nat_le (length bs) 4294967295) (lt-leb (length bs) 4294967295 h)

-- the fault of bytes that are too many
pub too_long_row : (bs : List ℕ) (e : VortexError) → IsTooLong bs e
    → RefusesRow (text_or_fault bs) e
too_long_row bs e h = (
  custom (fault_number TextTooLong),
  ap (λ b. cond b (gives (text bs)) (faults_by TextTooLong)) (has_none bs h.0),
  h.1,
)

-- unless memory ran out
pub too_long_rows : (bs : List ℕ) (e : VortexError) → UnlessMemory (IsTooLong bs) e
    → UnlessMemory (RefusesRow (text_or_fault bs)) e
too_long_rows bs e h =
    UnlessMemory-weaker (IsTooLong bs) (RefusesRow (text_or_fault bs)) (too_long_row bs) e h
