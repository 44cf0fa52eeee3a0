-- A text, so many times, and from its end to its start: `repeat` and `reverse`.
use Rattle.std.specs.Prelude.{◌≡◌, codes, ℕ, ℤ, List, [], ◌∷◌, false, refl, chars, encode_utf8_all}
use Rattle.std.specs.Prelude.{reverse}
use Rattle.std.specs.List as list
use Rattle.vortex_types.specs.LogicalTypes.{text_type}
use Rattle.vortex_types.specs.Values.{Value}
use Rattle.vortex_errors.specs.declared.arity.Arity.TheVariants.{Exact}
use Rattle.vortex_interface.specs.Outcomes.{Outcome, GivesType}
use Rattle.vortex_sql_rows.specs.declared.faults.RowFault.TheVariants.{OtherValues}
use Rattle.vortex_sql_rows.specs.declared.types.Gives.TheVariants as answer
use Rattle.vortex_sql_rows.specs.declared.types.Kind.TheVariants.{Text, Integer}
use Rattle.vortex_sql_rows.specs.declared.types.Takes.TheVariants.{Alike, Each}
use Rattle.vortex_sql_rows.specs.Faults.{faults_by}
use Rattle.vortex_sql_rows.specs.Row.{Row, LawfulRow}
use Rattle.vortex_sql_rows.specs.Shapes.{both_fit, number_in, one_text, one_text_lawful}
use Rattle.vortex_sql_rows.specs.Shapes.{strict_lawful, strict_of, strict_row, text_in, with_both}
use Rattle.vortex_sql_texts.specs.Characters.{at_least_zero}
use Rattle.vortex_sql_texts.specs.MadeTexts.{made_fits, text_or_fault}

-- the text so many times, or not at all where the count is negative
abbrev pub repeated : List ℕ → ℤ → List ℕ
repeated bs n = list.repeat (at_least_zero n) bs

abbrev pub repeat : List Value → Outcome
repeat (v ∷ w ∷ []) =
    with_both (λ bs n. text_or_fault (repeated bs n)) (text_in v) (number_in w)
repeat vs = faults_by OtherValues

abbrev pub repeat_row : Row
repeat_row =
    strict_of (codes "sql.repeat") (Exact 2) (Each Text Integer Integer) answer.Text false
    (λ p vs. repeat vs)

repeat_fits : (vs : List Value) → GivesType (text_type false) (repeat vs)
repeat_fits (v ∷ w ∷ []) =
    both_fit (text_type false) (λ bs n. text_or_fault (repeated bs n))
    (λ bs n. made_fits (repeated bs n)) (text_in v) (number_in w)
repeat_fits [] = tt
repeat_fits (v ∷ []) = tt
repeat_fits (v ∷ w ∷ x ∷ vs) = tt

pub repeat_lawful : LawfulRow repeat_row
repeat_lawful =
    strict_lawful (codes "sql.repeat") (Exact 2) (Each Text Integer Integer) answer.Text false
    (λ p vs. repeat vs) refl (λ t vs a. repeat_fits vs) (λ t vs a e. cc)

-- the characters from the last to the first
abbrev pub reversed : List ℕ → List ℕ
reversed bs = encode_utf8_all (reverse (chars bs))

abbrev pub reverse_row : Row
reverse_row =
    strict_row (codes "sql.reverse") 1 (Alike Text) answer.Text false
    (one_text (λ bs. text_or_fault (reversed bs)))

pub reverse_lawful : LawfulRow reverse_row
reverse_lawful =
    one_text_lawful (codes "sql.reverse") answer.Text false refl
    (λ bs. text_or_fault (reversed bs)) (λ n bs u. made_fits (reversed bs)) (λ bs e u. cc)
