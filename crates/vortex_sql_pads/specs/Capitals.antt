-- Texts with each word's first letter in upper case, and its others in lower case: `initcap`.
use Rattle.std.specs.Prelude.{◌≡◌, ◌++◌, ◌||◌, codes, ℕ, List, [], ◌∷◌, Bool, true, false, refl}
use Rattle.std.specs.Prelude.{chars, encode_utf8_all, if◌then◌else◌}
use Rattle.std.specs.Char.Unicode.ToLowercase.{to_lowercase}
use Rattle.std.specs.Char.Unicode.ToUppercase.{to_uppercase}
use Rattle.std.specs.Char.Unicode.Alphabetic.{is_alphabetic}
use Rattle.std.specs.Char.Unicode.Numeric.{is_numeric}
use Rattle.vortex_sql_rows.specs.declared.types.Gives.TheVariants as answer
use Rattle.vortex_sql_rows.specs.declared.types.Kind.TheVariants.{Text}
use Rattle.vortex_sql_rows.specs.declared.types.Takes.TheVariants.{Alike}
use Rattle.vortex_sql_rows.specs.Row.{Row, LawfulRow}
use Rattle.vortex_sql_rows.specs.Shapes.{one_text, one_text_lawful, strict_row}
use Rattle.vortex_sql_texts.specs.MadeTexts.{made_fits, text_or_fault}

-- the characters of a word: those that are Alphabetic, and numbers (of the categories Nd, Nl and No)
abbrev pub is_of_word : ℕ → Bool
is_of_word c = is_alphabetic c || is_numeric c

-- a character in lower case within a word, else in upper case, by the full mapping of Unicode
abbrev pub letter : Bool → ℕ → List ℕ
letter within c = if within then to_lowercase c else to_uppercase c

abbrev pub capitals : Bool → List ℕ → List ℕ
capitals within [] = []
capitals within (c ∷ cs) = letter within c ++ capitals (is_of_word c) cs

abbrev pub initcap : List ℕ → List ℕ
initcap bs = encode_utf8_all (capitals false (chars bs))

abbrev pub initcap_row : Row
initcap_row =
    strict_row (codes "sql.initcap") 1 (Alike Text) answer.Text false
    (one_text (λ bs. text_or_fault (initcap bs)))

pub initcap_lawful : LawfulRow initcap_row
initcap_lawful =
    one_text_lawful (codes "sql.initcap") answer.Text false refl
    (λ bs. text_or_fault (initcap bs)) (λ n bs u. made_fits (initcap bs)) (λ bs e u. cc)
