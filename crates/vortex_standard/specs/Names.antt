-- The names by which texts call the functions.
use Rattle.std.specs.Prelude.{◌∷◌, ◌++◌, ◌&&◌, ◌||◌, ◌==◌, codes, drop, length, map, nat_le}
use Rattle.std.specs.Prelude.{ℕ, [], Bool, List, None, Option, Some, false, if◌then◌else◌}
use Rattle.std.specs.Char.{is_ascii_digit, is_ascii_lowercase, to_ascii_lowercase}
use Rattle.std.specs.List.{find, list_all}
use Rattle.std.specs.Option.{option_or}
use Rattle.std.specs.Str.{bytes_eq}
use Rattle.vortex_standard.specs.declared.key_functions.TheConstants.{KEY_FUNCTIONS}
use Rattle.vortex_standard.specs.declared.names.TheConstants.{FUNCTIONS}
use Rattle.vortex_standard.specs.declared.standard.Standard.{Standard}
use Rattle.vortex_standard.specs.declared.standard.Standard.TheVariants as standard
use Rattle.vortex_sql_numbers.specs.declared.bits.BitOperator.TheVariants as bits
use Rattle.vortex_sql_texts.specs.declared.letters.Letters.TheVariants.{Lower, Upper}
use Rattle.vortex_sql_texts.specs.declared.texts.Measure.TheVariants.{Characters}
use Rattle.vortex_sql_texts.specs.declared.trims.Trim.TheVariants.{Both}
use Rattle.vortex_standard.specs.Standard.{row_of}

-- the identity without `sql.`
abbrev pub name_of : Standard → List ℕ
name_of f = drop 4 (row_of f).id

-- the same word, ignoring case
abbrev pub same_word : List ℕ → List ℕ → Bool
same_word w v = bytes_eq (map to_ascii_lowercase w) (map to_ascii_lowercase v)

abbrev pub has_name : List ℕ → Standard → Bool
has_name w f = same_word w (name_of f)

-- the function that a word is another name of
abbrev pub alias_of : List ℕ → Option Standard
alias_of w =
    if same_word w (codes "ifnull") then Some standard.Coalesce
    else if same_word w (codes "nvl") then Some standard.Coalesce
    else if same_word w (codes "if") then Some standard.Case
    else if same_word w (codes "iif") then Some standard.Case
    else if same_word w (codes "lcase") then Some (standard.Letters Lower)
    else if same_word w (codes "ucase") then Some (standard.Letters Upper)
    else if same_word w (codes "instr") then Some standard.StrPos
    else if same_word w (codes "char") then Some standard.Chr
    else if same_word w (codes "substring") then Some standard.Substr
    else if same_word w (codes "trim") then Some (standard.Trim Both)
    else if same_word w (codes "char_length") then Some (standard.Measure Characters)
    else if same_word w (codes "character_length") then Some (standard.Measure Characters)
    else if same_word w (codes "len") then Some (standard.Measure Characters)
    else if same_word w (codes "startswith") then Some standard.StartsWith
    else if same_word w (codes "mid") then Some standard.Substr
    else if same_word w (codes "bitand") then Some (standard.BitOperator bits.And)
    else if same_word w (codes "bitor") then Some (standard.BitOperator bits.Or)
    else if same_word w (codes "bitxor") then Some (standard.BitOperator bits.Xor)
    else if same_word w (codes "bitnot") then Some standard.BitNot
    else None

-- every function
abbrev pub functions : List Standard
functions = FUNCTIONS ++ KEY_FUNCTIONS

-- the function that a word names, in either case
abbrev pub standard_named : List ℕ → Option Standard
standard_named w = option_or (find (has_name w) functions) (alias_of w)

abbrev pub is_name_byte : ℕ → Bool
is_name_byte b = is_ascii_lowercase b || is_ascii_digit b || (b == 95)

-- a lower-case letter, and lower-case letters, digits and `_`; at most 23 bytes
abbrev pub is_name : List ℕ → Bool
is_name [] = false
is_name (b ∷ bs) = is_ascii_lowercase b && list_all is_name_byte bs && nat_le (length bs) 22

-- at most 16 bytes
abbrev pub is_short : List ℕ → Bool
is_short w = nat_le (length w) 16
