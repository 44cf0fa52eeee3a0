-- Parts of texts: `substr`, `left` and `right`.
use Rattle.std.specs.Prelude.{◌≡◌, ◌+ℤ◌, ◌-ℤ◌, codes, ℕ, ℤ, pos, List, [], ◌∷◌, Some, Bool, true}
use Rattle.std.specs.Prelude.{false, chars, get_or, int_lt, length, refl, unsigned_abs}
use Rattle.std.specs.Prelude.{if◌then◌else◌}
use Rattle.std.proofs.Common.{cond}
use Rattle.vortex_errors.specs.declared.arity.Arity.TheVariants.{Exact, Variadic}
use Rattle.vortex_types.specs.LogicalTypes.{text_type}
use Rattle.vortex_types.specs.Values.{Value}
use Rattle.vortex_interface.specs.Outcomes.{Outcome, GivesType}
use Rattle.vortex_sql_rows.specs.declared.faults.RowFault.TheVariants.{NegativeLength, OtherValues}
use Rattle.vortex_sql_rows.specs.declared.types.Gives.TheVariants as answer
use Rattle.vortex_sql_rows.specs.declared.types.Kind.TheVariants.{Text, Integer}
use Rattle.vortex_sql_rows.specs.declared.types.Takes.TheVariants.{Each}
use Rattle.vortex_sql_rows.specs.Faults.{faults_by}
use Rattle.vortex_sql_rows.specs.Row.{Row, LawfulRow}
use Rattle.vortex_sql_rows.specs.Shapes.{both_fit, number_in, strict_lawful, strict_of, text_in}
use Rattle.vortex_sql_rows.specs.Shapes.{three_fit, with_both, with_three}
use Rattle.vortex_sql_texts.specs.Characters.{after_chars, at_least_zero, first_chars}
use Rattle.vortex_sql_texts.specs.MadeTexts.{made_fits, text_or_fault}
use Rattle.vortex_sql_texts.specs.declared.parts.Side.{Side}
use Rattle.vortex_sql_texts.specs.declared.parts.Side.TheVariants.{Left, Right}

-- how many characters are before a place, where the first character has place 1
abbrev pub before_place : ℤ → ℕ
before_place from = at_least_zero (from -ℤ pos 1)

-- how many of so many places from a place on are place 1 or later
abbrev pub places_left : ℤ → ℤ → ℤ
places_left from count = if int_lt from (pos 1) then (from -ℤ pos 1) +ℤ count else count

abbrev pub from_place : List ℕ → ℤ → Outcome
from_place bs from = text_or_fault (after_chars (before_place from) bs)

abbrev pub at_places : List ℕ → ℤ → ℤ → Outcome
at_places bs from count =
    if int_lt count (pos 0) then faults_by NegativeLength
    else text_or_fault
    (first_chars (at_least_zero (places_left from count)) (after_chars (before_place from) bs))

abbrev pub substr : List Value → Outcome
substr (v ∷ w ∷ []) = with_both from_place (text_in v) (number_in w)
substr (v ∷ w ∷ x ∷ []) = with_three at_places (text_in v) (number_in w) (number_in x)
substr vs = faults_by OtherValues

abbrev pub substr_row : Row
substr_row =
    strict_of (codes "sql.substr") (Variadic 2 (Some 3)) (Each Text Integer Integer) answer.Text
    false (λ p vs. substr vs)

places_fit : (c : Bool) (bs : List ℕ)
    → GivesType (text_type false) (cond c (faults_by NegativeLength) (text_or_fault bs))
places_fit true bs = tt
places_fit false bs = made_fits bs

substr_fits : (vs : List Value) → GivesType (text_type false) (substr vs)
substr_fits (v ∷ w ∷ []) =
    both_fit (text_type false) from_place (λ bs z. made_fits (after_chars (before_place z) bs))
    (text_in v) (number_in w)
substr_fits (v ∷ w ∷ x ∷ []) =
    three_fit (text_type false) at_places
    (λ bs z n.
    places_fit (int_lt n (pos 0))
    (first_chars (at_least_zero (places_left z n)) (after_chars (before_place z) bs)))
    (text_in v) (number_in w) (number_in x)
substr_fits [] = tt
substr_fits (v ∷ []) = tt
substr_fits (v ∷ w ∷ x ∷ y ∷ vs) = tt

pub substr_lawful : LawfulRow substr_row
substr_lawful =
    strict_lawful (codes "sql.substr") (Variadic 2 (Some 3)) (Each Text Integer Integer)
    answer.Text false (λ p vs. substr vs) refl (λ t vs a. substr_fits vs) (λ t vs a e. cc)

-- Left: the first n characters, or where n is negative all but so many at the end.
-- Right: the last n characters, or where n is negative all but so many at the start.
abbrev pub first_count : ℕ → ℤ → ℕ
first_count k n = at_least_zero (if int_lt n (pos 0) then pos k +ℤ n else n)

abbrev pub last_start : ℕ → ℤ → ℕ
last_start k n = if int_lt n (pos 0) then unsigned_abs n else at_least_zero (pos k -ℤ n)

abbrev pub side_text : Side → List ℕ → ℤ → List ℕ
side_text Left bs n = first_chars (first_count (length (chars bs)) n) bs
side_text Right bs n = after_chars (last_start (length (chars bs)) n) bs

abbrev pub side_part : Side → List ℕ → ℤ → Outcome
side_part s bs n = text_or_fault (side_text s bs n)

abbrev pub side_of : Side → List Value → Outcome
side_of s (v ∷ w ∷ []) = with_both (side_part s) (text_in v) (number_in w)
side_of s vs = faults_by OtherValues

abbrev pub side_id : Side → List ℕ
side_id Left = codes "sql.left"
side_id Right = codes "sql.right"

abbrev pub side_row : Side → Row
side_row s =
    strict_of (side_id s) (Exact 2) (Each Text Integer Integer) answer.Text false
    (λ p vs. side_of s vs)

side_named : (s : Side) → get_or (side_id s) 0 0 ≡ 115
side_named Left = refl
side_named Right = refl

side_fits : (s : Side) (vs : List Value) → GivesType (text_type false) (side_of s vs)
side_fits s (v ∷ w ∷ []) =
    both_fit (text_type false) (side_part s) (λ bs n. made_fits (side_text s bs n)) (text_in v)
    (number_in w)
side_fits s [] = tt
side_fits s (v ∷ []) = tt
side_fits s (v ∷ w ∷ x ∷ vs) = tt

pub side_lawful : (s : Side) → LawfulRow (side_row s)
side_lawful s =
    strict_lawful (side_id s) (Exact 2) (Each Text Integer Integer) answer.Text false
    (λ p vs. side_of s vs) (side_named s) (λ t vs a. side_fits s vs) (λ t vs a e. cc)
