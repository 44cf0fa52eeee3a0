-- What is read of texts: how many characters and bytes they have, and how they begin.
use Rattle.std.specs.Prelude.{◌≡◌, codes, ℕ, List, pos, length, true, false, refl, nat_eq, chars}
use Rattle.std.specs.Prelude.{get_or}
use Rattle.std.specs.List.{starts_with}
use Rattle.vortex_types.specs.declared.dtype.PType.TheVariants.{I64}
use Rattle.vortex_types.specs.Values.{truth}
use Rattle.vortex_interface.specs.Outcomes.{Outcome, gives}
use Rattle.vortex_sql_rows.specs.declared.faults.RowFault.TheVariants.{TextTooLong}
use Rattle.vortex_sql_texts.specs.declared.texts.Measure.{Measure}
use Rattle.vortex_sql_texts.specs.declared.texts.Measure.TheVariants.{Characters, Bytes}
use Rattle.vortex_sql_rows.specs.declared.types.Gives.TheVariants as answer
use Rattle.vortex_sql_rows.specs.declared.types.Kind.TheVariants.{Text}
use Rattle.vortex_sql_rows.specs.declared.types.Takes.TheVariants.{Alike}
use Rattle.vortex_sql_rows.specs.Integers.{checked, checked_fits, int_or_fault}
use Rattle.vortex_sql_rows.specs.Row.{Row, LawfulRow}
use Rattle.vortex_sql_rows.specs.Shapes.{strict_row, one_text, one_text_lawful, two_texts}
use Rattle.vortex_sql_rows.specs.Shapes.{two_texts_lawful}

abbrev pub measured : Measure → List ℕ → ℕ
measured Characters bs = length (chars bs)
measured Bytes bs = length bs

abbrev pub measure_id : Measure → List ℕ
measure_id Characters = codes "sql.length"
measure_id Bytes = codes "sql.octet_length"

abbrev pub measure_of : Measure → List ℕ → Outcome
measure_of m bs = int_or_fault TextTooLong (checked I64 (pos (measured m bs)))

abbrev pub measure_row : Measure → Row
measure_row m =
    strict_row (measure_id m) 1 (Alike Text) (answer.Integer I64) false (one_text (measure_of m))

measure_named : (m : Measure) → get_or (measure_id m) 0 0 ≡ 115
measure_named Characters = refl
measure_named Bytes = refl

pub measure_lawful : (m : Measure) → LawfulRow (measure_row m)
measure_lawful m =
    one_text_lawful (measure_id m) (answer.Integer I64) false (measure_named m) (measure_of m)
    (λ n bs u. checked_fits TextTooLong I64 (pos (measured m bs))) (λ bs e u. cc)

-- whether the first text begins with the second
abbrev pub begins_with : List ℕ → List ℕ → Outcome
begins_with bs cs = gives (truth (starts_with nat_eq bs cs))

abbrev pub begins_row : Row
begins_row =
    strict_row (codes "sql.starts_with") 2 (Alike Text) answer.Truth true (two_texts begins_with)

pub begins_lawful : LawfulRow begins_row
begins_lawful =
    two_texts_lawful (codes "sql.starts_with") answer.Truth true refl begins_with
    (λ n bs cs u v. tt) (λ bs cs e u v. tt)
