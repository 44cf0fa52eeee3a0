-- Texts with other characters in place of some: `translate`.
use Rattle.std.specs.Prelude.{◌==◌, codes, ℕ, List, [], ◌∷◌, false, chars, drop, encode_utf8_all}
use Rattle.std.specs.Prelude.{if◌then◌else◌, refl, take}
use Rattle.std.specs.List.{flat_map}
use Rattle.vortex_errors.specs.declared.arity.Arity.TheVariants.{Exact}
use Rattle.vortex_types.specs.LogicalTypes.{text_type}
use Rattle.vortex_types.specs.Values.{Value}
use Rattle.vortex_interface.specs.Outcomes.{Outcome, GivesType}
use Rattle.vortex_sql_rows.specs.declared.faults.RowFault.TheVariants.{OtherValues}
use Rattle.vortex_sql_rows.specs.declared.types.Gives.TheVariants as answer
use Rattle.vortex_sql_rows.specs.declared.types.Kind.TheVariants.{Text}
use Rattle.vortex_sql_rows.specs.declared.types.Takes.TheVariants.{Alike}
use Rattle.vortex_sql_rows.specs.Faults.{faults_by}
use Rattle.vortex_sql_rows.specs.Row.{Row, LawfulRow}
use Rattle.vortex_sql_rows.specs.Shapes.{strict_lawful, strict_of, text_in, three_fit, with_three}
use Rattle.vortex_sql_texts.specs.MadeTexts.{made_fits, text_or_fault}

-- what comes in place of c: of ds the one at the first place of c among cs, if there is one; c
-- itself if it is none of cs
abbrev pub replacement : List ℕ → List ℕ → ℕ → List ℕ
replacement [] ds c = c ∷ []
replacement (b ∷ cs) ds c = if b == c then take 1 ds else replacement cs (drop 1 ds) c

-- the text with what comes in place of each character
abbrev pub translated : List ℕ → List ℕ → List ℕ → List ℕ
translated bs cs ds = encode_utf8_all (flat_map (replacement (chars cs) (chars ds)) (chars bs))

abbrev pub translate : List Value → Outcome
translate (v ∷ w ∷ x ∷ []) =
    with_three (λ bs cs ds. text_or_fault (translated bs cs ds)) (text_in v) (text_in w) (text_in x)
translate vs = faults_by OtherValues

abbrev pub translate_row : Row
translate_row =
    strict_of (codes "sql.translate") (Exact 3) (Alike Text) answer.Text false
    (λ p vs. translate vs)

translate_fits : (vs : List Value) → GivesType (text_type false) (translate vs)
translate_fits (v ∷ w ∷ x ∷ []) =
    three_fit (text_type false) (λ bs cs ds. text_or_fault (translated bs cs ds))
    (λ bs cs ds. made_fits (translated bs cs ds)) (text_in v) (text_in w) (text_in x)
translate_fits [] = tt
translate_fits (v ∷ []) = tt
translate_fits (v ∷ w ∷ []) = tt
translate_fits (v ∷ w ∷ x ∷ y ∷ vs) = tt

pub translate_lawful : LawfulRow translate_row
translate_lawful =
    strict_lawful (codes "sql.translate") (Exact 3) (Alike Text) answer.Text false
    (λ p vs. translate vs) refl (λ t vs a. translate_fits vs) (λ t vs a e. cc)
