-- Casts of floats to texts.
use Rattle.std.specs.Prelude.{◌≡◌, ℕ, ℤ, List, Option, Some, None, codes, false, get_or, refl}
use Rattle.vortex_types.specs.declared.dtype.PType.{PType}
use Rattle.vortex_types.specs.declared.dtype.PType.TheVariants.{I32, I64}
use Rattle.vortex_types.specs.LogicalTypes.{text_type}
use Rattle.vortex_interface.specs.Outcomes.{Outcome, GivesType}
use Rattle.vortex_float_texts.specs.declared.width.Width.{Width}
use Rattle.vortex_float_texts.specs.declared.width.Width.TheVariants.{F64, F32}
use Rattle.vortex_float_texts.specs.FloatTexts.{float_text}
use Rattle.vortex_sql_rows.specs.declared.faults.RowFault.TheVariants.{OtherValues}
use Rattle.vortex_sql_rows.specs.declared.types.Gives.TheVariants as answer
use Rattle.vortex_sql_rows.specs.declared.types.Kind.TheVariants.{Within}
use Rattle.vortex_sql_rows.specs.declared.types.Takes.TheVariants.{Alike}
use Rattle.vortex_sql_rows.specs.Integers.{checked}
use Rattle.vortex_sql_rows.specs.Row.{Row, LawfulRow}
use Rattle.vortex_sql_rows.specs.Shapes.{one_int, one_int_lawful, strict_row}
use Rattle.vortex_sql_kind_texts.specs.KindTexts.{written_fits, written_or_fault}
use Rattle.vortex_sql_kind_texts.specs.StoredRows.{on_taken}

abbrev pub stored_type : Width → PType
stored_type F64 = I64
stored_type F32 = I32

-- what is read back as the float, by the definition of `float_text`
unfoldable pub made_text : Width → ℤ → Outcome
made_text w z = written_or_fault OtherValues (float_text w z)

abbrev pub number_text : Width → ℤ → Outcome
number_text w z = on_taken (made_text w) (checked (stored_type w) z)

abbrev pub float_id : Width → List ℕ
float_id F64 = codes "sql.f64_to_utf8"
float_id F32 = codes "sql.f32_to_utf8"

abbrev pub float_row : Width → Row
float_row w =
    strict_row (float_id w) 1 (Alike (Within (stored_type w))) answer.Text false
    (one_int (λ p. number_text w))

float_named : (w : Width) → get_or (float_id w) 0 0 ≡ 115
float_named F64 = refl
float_named F32 = refl

number_fits : (w : Width) (z : Option ℤ)
    → GivesType (text_type false) (on_taken (made_text w) z)
unfolding made_text
number_fits w None = tt
number_fits w (Some z) = written_fits OtherValues (float_text w z)

pub float_lawful : (w : Width) → LawfulRow (float_row w)
float_lawful w =
    one_int_lawful (float_id w) (Within (stored_type w)) answer.Text false (float_named w) tt
    (λ p. number_text w)
    (λ p n z h f. number_fits w (checked (stored_type w) z)) (λ p z e h. cc)
