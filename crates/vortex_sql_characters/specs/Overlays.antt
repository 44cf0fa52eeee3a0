-- Texts with another one in place of a part: `overlay`.
use Rattle.std.specs.Prelude.{◌++◌, ◌+ℤ◌, codes, ℤ, pos, List, [], ◌∷◌, Option, Some, None, Bool}
use Rattle.std.specs.Prelude.{ℕ, true, false, chars, if◌then◌else◌, int_lt, length, refl}
use Rattle.std.proofs.Common.{cond}
use Rattle.vortex_errors.specs.declared.arity.Arity.TheVariants.{Variadic}
use Rattle.vortex_types.specs.LogicalTypes.{LogicalType, text_type}
use Rattle.vortex_types.specs.Values.{Value}
use Rattle.vortex_interface.specs.Outcomes.{Outcome, custom, faults, GivesType}
use Rattle.vortex_sql_rows.specs.declared.faults.RowFault.TheVariants.{OtherValues}
use Rattle.vortex_sql_rows.specs.declared.types.Gives.TheVariants as answer
use Rattle.vortex_sql_rows.specs.declared.types.Kind.TheVariants.{Text, Integer}
use Rattle.vortex_sql_rows.specs.declared.types.Takes.TheVariants.{Each}
use Rattle.vortex_sql_rows.specs.Faults.{faults_by}
use Rattle.vortex_sql_rows.specs.Row.{Row, LawfulRow}
use Rattle.vortex_sql_rows.specs.Shapes.{number_in, strict_lawful, strict_of, text_in, three_fit}
use Rattle.vortex_sql_rows.specs.Shapes.{with_three}
use Rattle.vortex_sql_texts.specs.Characters.{after_chars, first_chars}
use Rattle.vortex_sql_texts.specs.MadeTexts.{made_fits, text_or_fault}
use Rattle.vortex_sql_texts.specs.Parts.{before_place}
use Rattle.vortex_sql_characters.specs.CharacterFaults.{no_place}

-- the characters before place z, where the first has place 1, then ts, then those from place z + n
-- on
abbrev pub overlaid : List ℕ → List ℕ → ℤ → ℤ → List ℕ
overlaid bs ts z n =
    first_chars (before_place z) bs ++ ts ++ after_chars (before_place (z +ℤ n)) bs

abbrev pub overlay_of : List ℕ → List ℕ → ℤ → ℤ → Outcome
overlay_of bs ts z n =
    if int_lt z (pos 1) then faults (custom no_place) else text_or_fault (overlaid bs ts z n)

-- without a count, for as many characters as ts has
abbrev pub overlay_whole : List ℕ → List ℕ → ℤ → Outcome
overlay_whole bs ts z = overlay_of bs ts z (pos (length (chars ts)))

abbrev pub with_four : {A B C D : Type 0} → (A → B → C → D → Outcome) → Option A → Option B
    → Option C → Option D → Outcome
with_four f (Some a) b c d = with_three (f a) b c d
with_four f None b c d = faults_by OtherValues

abbrev pub overlay : List Value → Outcome
overlay (v ∷ w ∷ x ∷ []) = with_three overlay_whole (text_in v) (text_in w) (number_in x)
overlay (v ∷ w ∷ x ∷ y ∷ []) =
    with_four overlay_of (text_in v) (text_in w) (number_in x) (number_in y)
overlay vs = faults_by OtherValues

abbrev pub overlay_row : Row
overlay_row =
    strict_of (codes "sql.overlay") (Variadic 3 (Some 4)) (Each Text Text Integer) answer.Text
    false (λ p vs. overlay vs)

four_fit : {A B C D : Type 0} (t : LogicalType) (f : A → B → C → D → Outcome)
    → ((a : A) (b : B) (c : C) (d : D) → GivesType t (f a b c d)) → (a : Option A) (b : Option B)
    → (c : Option C) (d : Option D) → GivesType t (with_four f a b c d)
four_fit t f h (Some a) b c d = three_fit t (f a) (h a) b c d
four_fit t f h None b c d = tt

place_fits : (b : Bool) (bs : List ℕ)
    → GivesType (text_type false) (cond b (faults (custom no_place)) (text_or_fault bs))
place_fits true bs = tt
place_fits false bs = made_fits bs

of_fits : (bs ts : List ℕ) (z n : ℤ) → GivesType (text_type false) (overlay_of bs ts z n)
of_fits bs ts z n = place_fits (int_lt z (pos 1)) (overlaid bs ts z n)

overlay_fits : (vs : List Value) → GivesType (text_type false) (overlay vs)
overlay_fits (v ∷ w ∷ x ∷ []) =
    three_fit (text_type false) overlay_whole
    (λ bs ts z. of_fits bs ts z (pos (length (chars ts)))) (text_in v) (text_in w) (number_in x)
overlay_fits (v ∷ w ∷ x ∷ y ∷ []) =
    four_fit (text_type false) overlay_of of_fits (text_in v) (text_in w) (number_in x)
    (number_in y)
overlay_fits [] = tt
overlay_fits (v ∷ []) = tt
overlay_fits (v ∷ w ∷ []) = tt
overlay_fits (v ∷ w ∷ x ∷ y ∷ u ∷ vs) = tt

pub overlay_lawful : LawfulRow overlay_row
overlay_lawful =
    strict_lawful (codes "sql.overlay") (Variadic 3 (Some 4)) (Each Text Text Integer) answer.Text
    false (λ p vs. overlay vs) refl (λ t vs a. overlay_fits vs) (λ t vs a e. cc)
