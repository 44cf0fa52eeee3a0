-- Texts without some characters at their ends: `btrim`, `ltrim` and `rtrim`.
use Rattle.std.specs.Prelude.{◌≡◌, ◌==◌, codes, ℕ, zero, suc, List, [], ◌∷◌, Bool, true, false, chars}
use Rattle.std.specs.Prelude.{encode_utf8_all, get_or, refl, if◌then◌else◌, Option, Some, None}
use Rattle.std.specs.List.{list_any}
use Rattle.vortex_errors.specs.declared.arity.Arity.TheVariants.{Variadic}
use Rattle.vortex_types.specs.LogicalTypes.{text_type}
use Rattle.vortex_types.specs.Values.{Value}
use Rattle.vortex_interface.specs.Outcomes.{Outcome, GivesType}
use Rattle.vortex_sql_rows.specs.declared.faults.RowFault.TheVariants.{OtherValues}
use Rattle.vortex_sql_rows.specs.declared.types.Gives.TheVariants as answer
use Rattle.vortex_sql_rows.specs.declared.types.Kind.TheVariants.{Text}
use Rattle.vortex_sql_rows.specs.declared.types.Takes.TheVariants.{Alike}
use Rattle.vortex_sql_rows.specs.Faults.{faults_by}
use Rattle.vortex_sql_rows.specs.Row.{Row, LawfulRow}
use Rattle.vortex_sql_rows.specs.Shapes.{both_fit, strict_lawful, strict_of, text_in, with_both}
use Rattle.vortex_sql_texts.specs.Characters.{first_chars}
use Rattle.vortex_sql_texts.specs.MadeTexts.{made_fits, text_or_fault}
use Rattle.vortex_sql_texts.specs.declared.trims.Trim.{Trim}
use Rattle.vortex_sql_texts.specs.declared.trims.Trim.TheVariants.{Both, Start, End}
use Rattle.vortex_sql_texts.specs.declared.trims.LeftOut.{LeftOut}
use Rattle.vortex_sql_texts.specs.declared.trims.LeftOut.TheVariants.{Blanks, Spaces, CharactersOf}

-- which characters are left out: of spaces the blank, \t, \n, \v, \f and \r
abbrev pub members : LeftOut → List ℕ
members Blanks = 32 ∷ []
members Spaces = 32 ∷ 9 ∷ 10 ∷ 11 ∷ 12 ∷ 13 ∷ []
members (CharactersOf bs) = chars bs.now

abbrev pub has : List ℕ → ℕ → Bool
has ks c = list_any (λ k. c == k) ks

-- the characters from the first that stays on
abbrev pub skip : List ℕ → List ℕ → List ℕ
skip ks [] = []
skip ks (c ∷ cs) = if has ks c then skip ks cs else c ∷ cs

-- how many characters there are up to the last that stays: of c, where n follow it up to that
abbrev pub kept_with : List ℕ → ℕ → ℕ → ℕ
kept_with ks c zero = if has ks c then 0 else 1
kept_with ks c (suc n) = suc (suc n)

abbrev pub kept_count : List ℕ → List ℕ → ℕ
kept_count ks [] = 0
kept_count ks (c ∷ cs) = kept_with ks c (kept_count ks cs)

abbrev pub without_start : List ℕ → List ℕ → List ℕ
without_start ks bs = encode_utf8_all (skip ks (chars bs))

abbrev pub without_end : List ℕ → List ℕ → List ℕ
without_end ks bs = first_chars (kept_count ks (chars bs)) bs

abbrev pub trimmed : Trim → List ℕ → List ℕ → List ℕ
trimmed Both ks bs = without_end ks (without_start ks bs)
trimmed Start ks bs = without_start ks bs
trimmed End ks bs = without_end ks bs

-- without the characters of the second text
abbrev pub trim_of : Trim → List ℕ → List ℕ → Outcome
trim_of t bs cs = text_or_fault (trimmed t (chars cs) bs)

-- without blanks
abbrev pub of_blanks : Trim → Option (List ℕ) → Outcome
of_blanks t (Some bs) = text_or_fault (trimmed t (members Blanks) bs)
of_blanks t None = faults_by OtherValues

abbrev pub trim : Trim → List Value → Outcome
trim t (v ∷ []) = of_blanks t (text_in v)
trim t (v ∷ w ∷ []) = with_both (trim_of t) (text_in v) (text_in w)
trim t vs = faults_by OtherValues

abbrev pub trim_id : Trim → List ℕ
trim_id Both = codes "sql.btrim"
trim_id Start = codes "sql.ltrim"
trim_id End = codes "sql.rtrim"

abbrev pub trim_row : Trim → Row
trim_row t =
    strict_of (trim_id t) (Variadic 1 (Some 2)) (Alike Text) answer.Text false (λ p vs. trim t vs)

named : (t : Trim) → get_or (trim_id t) 0 0 ≡ 115
named Both = refl
named Start = refl
named End = refl

blanks_fit : (t : Trim) (bs : Option (List ℕ)) → GivesType (text_type false) (of_blanks t bs)
blanks_fit t (Some bs) = made_fits (trimmed t (members Blanks) bs)
blanks_fit t None = tt

trim_fits : (t : Trim) (vs : List Value) → GivesType (text_type false) (trim t vs)
trim_fits t (v ∷ []) = blanks_fit t (text_in v)
trim_fits t (v ∷ w ∷ []) =
    both_fit (text_type false) (trim_of t) (λ bs cs. made_fits (trimmed t (chars cs) bs)) (text_in v)
    (text_in w)
trim_fits t [] = tt
trim_fits t (v ∷ w ∷ x ∷ vs) = tt

pub trim_lawful : (t : Trim) → LawfulRow (trim_row t)
trim_lawful t =
    strict_lawful (trim_id t) (Variadic 1 (Some 2)) (Alike Text) answer.Text false
    (λ p vs. trim t vs) (named t) (λ u vs a. trim_fits t vs) (λ u vs a e. cc)
