-- Bytes that are no text.
use Rattle.std.proofs.Common.{◌≡◌, List, ℕ, Bool, true, false, cond, refl}
use Rattle.std.specs.Prelude.{◌&&◌, IsUtf8, length, nat_le}
use Rattle.std.specs.Str.{is_utf8}
use Rattle.std.proofs.lemmas.Str.{IsUtf8-from_is_utf8}
use Rattle.vortex_types.specs.Values.{text}
use Rattle.vortex_interface.specs.Outcomes.{gives}
use Rattle.vortex_sql_rows.specs.declared.faults.RowFault.TheVariants.{TextTooLong}
use Rattle.vortex_sql_rows.specs.Faults.{faults_by}
use Rattle.vortex_sql_texts.specs.MadeTexts.{text_or_fault}

pub no_text_is : (bs : List ℕ) → ¬ IsUtf8 bs → text_or_fault bs ≡ faults_by TextTooLong
no_text_is bs never = by (is_utf8 bs) refl
  where
    by : (b : Bool) → is_utf8 bs ≡ b
        → cond (b && nat_le (length bs) 4294967295) (gives (text bs)) (faults_by TextTooLong) ≡ faults_by TextTooLong
    by true e = absurd (never (IsUtf8-from_is_utf8 bs e))
    by false e = refl
