-- Texts that are filled up to a length: `lpad` and `rpad`.
use Rattle.std.specs.Prelude.{◌≡◌, ◌++◌, ◌-◌, ◌/◌, ◌%◌, codes, ℕ, zero, suc, ℤ, List, [], ◌∷◌, Some}
use Rattle.std.specs.Prelude.{false, chars, get_or, length, refl}
use Rattle.std.specs.List as list
use Rattle.vortex_errors.specs.declared.arity.Arity.TheVariants.{Variadic}
use Rattle.vortex_types.specs.LogicalTypes.{text_type}
use Rattle.vortex_types.specs.Values.{Value}
use Rattle.vortex_interface.specs.Outcomes.{Outcome, GivesType}
use Rattle.vortex_sql_rows.specs.declared.faults.RowFault.TheVariants.{OtherValues}
use Rattle.vortex_sql_rows.specs.declared.types.Gives.TheVariants as answer
use Rattle.vortex_sql_rows.specs.declared.types.Kind.TheVariants.{Text, Integer}
use Rattle.vortex_sql_rows.specs.declared.types.Takes.TheVariants.{Each}
use Rattle.vortex_sql_rows.specs.Faults.{faults_by}
use Rattle.vortex_sql_rows.specs.Row.{Row, LawfulRow}
use Rattle.vortex_sql_rows.specs.Shapes.{both_fit, number_in, strict_lawful, strict_of, text_in}
use Rattle.vortex_sql_rows.specs.Shapes.{three_fit, with_both, with_three}
use Rattle.vortex_sql_texts.specs.Characters.{at_least_zero, first_chars}
use Rattle.vortex_sql_texts.specs.MadeTexts.{made_fits, text_or_fault}
use Rattle.vortex_sql_pads.specs.declared.pads.Pad.{Pad}
use Rattle.vortex_sql_pads.specs.declared.pads.Pad.TheVariants.{Left, Right}

-- n characters of a text of so many, again and again from its start; an empty one fills nothing
abbrev pub filled_by : ℕ → List ℕ → ℕ → List ℕ
filled_by n ds zero = []
filled_by n ds (suc k) = list.repeat (n / suc k) ds ++ first_chars (n % suc k) ds

abbrev pub filler : ℕ → List ℕ → List ℕ
filler n ds = filled_by n ds (length (chars ds))

-- the first n characters of a text, and where it has fewer the filler before or after them
abbrev pub padded : Pad → ℕ → List ℕ → List ℕ → List ℕ
padded Left n bs ds = filler (n - length (chars bs)) ds ++ first_chars n bs
padded Right n bs ds = first_chars n bs ++ filler (n - length (chars bs)) ds

abbrev pub pad_of : Pad → List ℕ → ℤ → List ℕ → Outcome
pad_of p bs z ds = text_or_fault (padded p (at_least_zero z) bs ds)

-- without a third argument blanks fill
abbrev pub pad : Pad → List Value → Outcome
pad p (v ∷ w ∷ []) = with_both (λ bs z. pad_of p bs z (codes " ")) (text_in v) (number_in w)
pad p (v ∷ w ∷ x ∷ []) = with_three (pad_of p) (text_in v) (number_in w) (text_in x)
pad p vs = faults_by OtherValues

abbrev pub pad_id : Pad → List ℕ
pad_id Left = codes "sql.lpad"
pad_id Right = codes "sql.rpad"

abbrev pub pad_row : Pad → Row
pad_row p =
    strict_of (pad_id p) (Variadic 2 (Some 3)) (Each Text Integer Text) answer.Text false
    (λ t vs. pad p vs)

pad_named : (p : Pad) → get_or (pad_id p) 0 0 ≡ 115
pad_named Left = refl
pad_named Right = refl

pad_fits : (p : Pad) (vs : List Value) → GivesType (text_type false) (pad p vs)
pad_fits p (v ∷ w ∷ []) =
    both_fit (text_type false) (λ bs z. pad_of p bs z (codes " "))
    (λ bs z. made_fits (padded p (at_least_zero z) bs (codes " "))) (text_in v) (number_in w)
pad_fits p (v ∷ w ∷ x ∷ []) =
    three_fit (text_type false) (pad_of p)
    (λ bs z ds. made_fits (padded p (at_least_zero z) bs ds)) (text_in v) (number_in w) (text_in x)
pad_fits p [] = tt
pad_fits p (v ∷ []) = tt
pad_fits p (v ∷ w ∷ x ∷ y ∷ vs) = tt

pub pad_lawful : (p : Pad) → LawfulRow (pad_row p)
pad_lawful p =
    strict_lawful (pad_id p) (Variadic 2 (Some 3)) (Each Text Integer Text) answer.Text false
    (λ t vs. pad p vs) (pad_named p) (λ t vs a. pad_fits p vs) (λ t vs a e. cc)
