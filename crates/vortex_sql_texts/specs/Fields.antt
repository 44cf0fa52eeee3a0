-- Texts in fields, between the places of a delimiter: `split_part`, and what `replace` joins anew.
use Rattle.std.specs.Prelude.{◌≡◌, ◌==◌, ◌+ℤ◌, ◌++◌, codes, ℕ, ℤ, zero, suc, pos, neg_ℤ, List, [], ◌∷◌}
use Rattle.std.specs.Prelude.{Bool, true, false, int_lt, length, nat_eq, refl, reverse}
use Rattle.std.specs.Prelude.{slice_index_or, if◌then◌else◌}
use Rattle.std.specs.List.{starts_with}
use Rattle.std.specs.Ordering.{int_eq}
use Rattle.std.proofs.Common.{cond}
use Rattle.vortex_errors.specs.declared.arity.Arity.TheVariants.{Exact}
use Rattle.vortex_types.specs.LogicalTypes.{text_type}
use Rattle.vortex_types.specs.Values.{Value}
use Rattle.vortex_interface.specs.Outcomes.{Outcome, GivesType}
use Rattle.vortex_sql_rows.specs.declared.faults.RowFault.TheVariants.{FieldZero, OtherValues}
use Rattle.vortex_sql_rows.specs.declared.types.Gives.TheVariants as answer
use Rattle.vortex_sql_rows.specs.declared.types.Kind.TheVariants.{Text, Integer}
use Rattle.vortex_sql_rows.specs.declared.types.Takes.TheVariants.{Each}
use Rattle.vortex_sql_rows.specs.Faults.{faults_by}
use Rattle.vortex_sql_rows.specs.Row.{Row, LawfulRow}
use Rattle.vortex_sql_rows.specs.Shapes.{number_in, strict_lawful, strict_of, text_in, three_fit}
use Rattle.vortex_sql_rows.specs.Shapes.{with_three}
use Rattle.vortex_sql_texts.specs.Characters.{at_least_zero}
use Rattle.vortex_sql_texts.specs.MadeTexts.{made_fits, text_or_fault}
use Rattle.vortex_sql_texts.specs.Parts.{before_place}

-- the first field with a byte more at its start
abbrev pub in_first : ℕ → List (List ℕ) → List (List ℕ)
in_first b [] = (b ∷ []) ∷ []
in_first b (f ∷ fs) = (b ∷ f) ∷ fs

-- the fields between the texts d ∷ ds of what follows n more bytes, which are of such a text
abbrev pub fields_after : ℕ → List ℕ → ℕ → List ℕ → List (List ℕ)
fields_after d ds n [] = [] ∷ []
fields_after d ds zero (b ∷ bs) =
    if starts_with nat_eq (b ∷ bs) (d ∷ ds) then [] ∷ fields_after d ds (length ds) bs
    else in_first b (fields_after d ds 0 bs)
fields_after d ds (suc n) (b ∷ bs) = fields_after d ds n bs

-- the texts between the delimiters, found from left to right; an empty delimiter is nowhere
abbrev pub fields : List ℕ → List ℕ → List (List ℕ)
fields [] bs = bs ∷ []
fields (d ∷ ds) bs = fields_after d ds 0 bs

-- a field, or an empty text past the last
abbrev pub field_at : ℕ → List (List ℕ) → List ℕ
field_at n fs = slice_index_or fs n []

-- the fields, with a text between each two
abbrev pub joined : List ℕ → List (List ℕ) → List ℕ
joined es [] = []
joined es (f ∷ []) = f
joined es (f ∷ g ∷ gs) = f ++ (es ++ joined es (g ∷ gs))

-- the field of that number, counted from 1 on, or from the end on where it is negative
abbrev pub part_text : List ℕ → List ℕ → ℤ → List ℕ
part_text bs ds n =
    if int_lt n (pos 0)
    then field_at (at_least_zero (neg_ℤ (n +ℤ pos 1))) (reverse (fields ds bs))
    else field_at (before_place n) (fields ds bs)

abbrev pub split_part : List ℕ → List ℕ → ℤ → Outcome
split_part bs ds n =
    if int_eq n (pos 0) then faults_by FieldZero else text_or_fault (part_text bs ds n)

abbrev pub split_parts : List Value → Outcome
split_parts (v ∷ w ∷ x ∷ []) = with_three split_part (text_in v) (text_in w) (number_in x)
split_parts vs = faults_by OtherValues

abbrev pub split_part_row : Row
split_part_row =
    strict_of (codes "sql.split_part") (Exact 3) (Each Text Text Integer) answer.Text false
    (λ p vs. split_parts vs)

part_fits : (b : Bool) (bs : List ℕ)
    → GivesType (text_type false) (cond b (faults_by FieldZero) (text_or_fault bs))
part_fits true bs = tt
part_fits false bs = made_fits bs

parts_fit : (vs : List Value) → GivesType (text_type false) (split_parts vs)
parts_fit (v ∷ w ∷ x ∷ []) =
    three_fit (text_type false) split_part
    (λ bs ds n. part_fits (int_eq n (pos 0)) (part_text bs ds n)) (text_in v) (text_in w)
    (number_in x)
parts_fit [] = tt
parts_fit (v ∷ []) = tt
parts_fit (v ∷ w ∷ []) = tt
parts_fit (v ∷ w ∷ x ∷ y ∷ vs) = tt

pub split_part_lawful : LawfulRow split_part_row
split_part_lawful =
    strict_lawful (codes "sql.split_part") (Exact 3) (Each Text Text Integer) answer.Text false
    (λ p vs. split_parts vs) refl (λ t vs a. parts_fit vs) (λ t vs a e. cc)
