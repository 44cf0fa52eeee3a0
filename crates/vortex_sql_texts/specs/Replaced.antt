-- A text with another one in place of each part: `replace`.
use Rattle.std.specs.Prelude.{◌≡◌, codes, ℕ, List, [], ◌∷◌, false, refl}
use Rattle.vortex_types.specs.LogicalTypes.{text_type}
use Rattle.vortex_types.specs.Values.{Value}
use Rattle.vortex_errors.specs.declared.arity.Arity.TheVariants.{Exact}
use Rattle.vortex_interface.specs.Outcomes.{Outcome, GivesType}
use Rattle.vortex_sql_rows.specs.declared.faults.RowFault.TheVariants.{OtherValues}
use Rattle.vortex_sql_rows.specs.declared.types.Gives.TheVariants as answer
use Rattle.vortex_sql_rows.specs.declared.types.Kind.TheVariants.{Text}
use Rattle.vortex_sql_rows.specs.declared.types.Takes.TheVariants.{Alike}
use Rattle.vortex_sql_rows.specs.Faults.{faults_by}
use Rattle.vortex_sql_rows.specs.Row.{Row, LawfulRow}
use Rattle.vortex_sql_rows.specs.Shapes.{strict_lawful, strict_of, text_in, three_fit, with_three}
use Rattle.vortex_sql_texts.specs.Fields.{fields, joined}
use Rattle.vortex_sql_texts.specs.MadeTexts.{made_fits, text_or_fault}

-- the text with es in place of each ds, from left to right; without ds it is unchanged
abbrev pub replaced : List ℕ → List ℕ → List ℕ → List ℕ
replaced bs ds es = joined es (fields ds bs)

abbrev pub replace : List Value → Outcome
replace (v ∷ w ∷ x ∷ []) =
    with_three (λ bs ds es. text_or_fault (replaced bs ds es)) (text_in v) (text_in w) (text_in x)
replace vs = faults_by OtherValues

abbrev pub replace_row : Row
replace_row =
    strict_of (codes "sql.replace") (Exact 3) (Alike Text) answer.Text false (λ p vs. replace vs)

replace_fits : (vs : List Value) → GivesType (text_type false) (replace vs)
replace_fits (v ∷ w ∷ x ∷ []) =
    three_fit (text_type false) (λ bs ds es. text_or_fault (replaced bs ds es))
    (λ bs ds es. made_fits (replaced bs ds es)) (text_in v) (text_in w) (text_in x)
replace_fits [] = tt
replace_fits (v ∷ []) = tt
replace_fits (v ∷ w ∷ []) = tt
replace_fits (v ∷ w ∷ x ∷ y ∷ vs) = tt

pub replace_lawful : LawfulRow replace_row
replace_lawful =
    strict_lawful (codes "sql.replace") (Exact 3) (Alike Text) answer.Text false
    (λ p vs. replace vs) refl (λ t vs a. replace_fits vs) (λ t vs a e. cc)
