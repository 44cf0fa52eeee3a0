-- A text in which what matches a pattern is replaced: `regexp_replace`.
use Rattle.std.specs.Prelude.{◌==◌, codes, ℕ, List, [], ◌∷◌, Option, Some, None, Bool}
use Rattle.std.specs.Prelude.{true, false, refl, if◌then◌else◌}
use Rattle.regex.specs.Patterns.{Re}
use Rattle.vortex_errors.specs.declared.arity.Arity.TheVariants.{Variadic}
use Rattle.vortex_types.specs.declared.dtype.PType.TheVariants.{I64}
use Rattle.vortex_types.specs.LogicalTypes.{text_type}
use Rattle.vortex_types.specs.Values.{Value}
use Rattle.vortex_interface.specs.Outcomes.{Outcome, GivesType}
use Rattle.vortex_sql_rows.specs.declared.faults.RowFault.TheVariants.{NoPattern, OtherValues}
use Rattle.vortex_sql_rows.specs.declared.types.Gives.TheVariants as answer
use Rattle.vortex_sql_rows.specs.declared.types.Kind.TheVariants.{Text}
use Rattle.vortex_sql_rows.specs.declared.types.Takes.TheVariants.{Alike}
use Rattle.vortex_sql_rows.specs.Faults.{faults_by}
use Rattle.vortex_sql_rows.specs.Row.{Row, LawfulRow, row_gives}
use Rattle.vortex_sql_rows.specs.Shapes.{strict_lawful, strict_of, text_in}
use Rattle.vortex_sql_texts.specs.MadeTexts.{made_fits, text_or_fault}
use Rattle.vortex_sql_patterns.specs.Patterns.{pattern_in}
use Rattle.vortex_sql_patterns.specs.PatternFunctions.{in_any_case}
use Rattle.vortex_sql_patterns.specs.declared.requests.Request.{Request}
use Rattle.vortex_sql_patterns.specs.Replacing.{found_at, replaced}

-- flags, from those before them: `g` for each match, `i` for either case, `c` for the case as it
-- is; none where a sign is none of them
abbrev pub with_flags : Bool × Bool → List ℕ → Option (Bool × Bool)
with_flags x [] = Some x
with_flags x (b ∷ bs) =
    if b == 103 then with_flags (true, x.1) bs
    else if b == 105 then with_flags (x.0, true) bs
    else if b == 99 then with_flags (x.0, false) bs
    else None

-- a pattern that is read without regard to case
abbrev pub in_case : Bool → List ℕ → List ℕ
in_case true ps = in_any_case ps
in_case false ps = ps

abbrev pub replaced_by : Bool → List ℕ → List ℕ → Option Re → Outcome
replaced_by all bs rs None = faults_by NoPattern
replaced_by all bs rs (Some re) = text_or_fault (replaced all bs rs (found_at re bs))

-- a text, a pattern, a replacement and flags
abbrev pub replace_by : List ℕ → List ℕ → List ℕ → Option (Bool × Bool) → Outcome
replace_by bs ps rs None = faults_by NoPattern
replace_by bs ps rs (Some x) = replaced_by x.0 bs rs (pattern_in (in_case x.1 ps))

-- what a row asks for
pub record Asked : Type 0 where
  pub flags : List ℕ
  pub text : List ℕ
  pub pattern : List ℕ
  pub other : List ℕ

abbrev pub asks : List ℕ → Option (List ℕ) → Option (List ℕ) → Option (List ℕ) → Option Asked
asks fs None p r = None
asks fs (Some bs) None r = None
asks fs (Some bs) (Some ps) None = None
asks fs (Some bs) (Some ps) (Some rs) =
    Some (record { flags = fs; text = bs; pattern = ps; other = rs })

abbrev pub asks_by : Option (List ℕ) → Option (List ℕ) → Option (List ℕ) → Option (List ℕ)
    → Option Asked
asks_by None a p r = None
asks_by (Some fs) a p r = asks fs a p r

-- a text, a pattern and a replacement, and then flags or none
abbrev pub asked_in : List Value → Option Asked
asked_in (a ∷ p ∷ r ∷ []) = asks [] (text_in a) (text_in p) (text_in r)
asked_in (a ∷ p ∷ r ∷ f ∷ []) = asks_by (text_in f) (text_in a) (text_in p) (text_in r)
asked_in vs = None

-- that of a request
abbrev pub asked_by : Request → Asked
asked_by r = record {
  flags = r.flags.now;
  text = r.text.now;
  pattern = r.pattern.now;
  other = r.other.now;
}

-- without flags the first match is replaced, and case counts
abbrev pub replaced_for : Asked → Outcome
replaced_for a = replace_by a.text a.pattern a.other (with_flags (false, false) a.flags)

abbrev pub replaced_if : Option Asked → Outcome
replaced_if None = faults_by OtherValues
replaced_if (Some a) = replaced_for a

abbrev pub replace_in : List Value → Outcome
replace_in vs = replaced_if (asked_in vs)

abbrev pub regexp_replace_row : Row
regexp_replace_row =
    strict_of (codes "sql.regexp_replace") (Variadic 3 (Some 4)) (Alike Text) answer.Text false
    (λ t vs. replace_in vs)

-- the outcome of a row, null included
abbrev pub replace_of : List Value → Outcome
replace_of = row_gives regexp_replace_row I64

text_typed : (all : Bool) (bs rs : List ℕ) (o : Option Re)
    → GivesType (text_type false) (replaced_by all bs rs o)
text_typed all bs rs None = tt
text_typed all bs rs (Some re) = made_fits (replaced all bs rs (found_at re bs))

by_typed : (bs ps rs : List ℕ) (o : Option (Bool × Bool))
    → GivesType (text_type false) (replace_by bs ps rs o)
by_typed bs ps rs None = tt
by_typed bs ps rs (Some x) = text_typed x.0 bs rs (pattern_in (in_case x.1 ps))

typed : (o : Option Asked) → GivesType (text_type false) (replaced_if o)
typed None = tt
typed (Some a) = by_typed a.text a.pattern a.other (with_flags (false, false) a.flags)

pub regexp_replace_lawful : LawfulRow regexp_replace_row
regexp_replace_lawful =
    strict_lawful (codes "sql.regexp_replace") (Variadic 3 (Some 4)) (Alike Text) answer.Text false
    (λ t vs. replace_in vs) refl (λ t vs a. typed (asked_in vs)) (λ t vs a e. cc)
