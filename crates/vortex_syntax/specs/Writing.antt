-- The text of tokens: how each is written, and where a blank comes before it.
use Rattle.std.specs.Prelude.{◌≡◌, ℕ, ◌==◌, ◌&&◌, ◌||◌, Bool, true, false, List, [], ◌∷◌, ◌++◌}
use Rattle.std.specs.Prelude.{codes, is_none, string_bytes, Option, Some, None, if◌then◌else◌}
use Rattle.std.specs.List.{list_all}
use Rattle.vortex_syntax.specs.declared.token.Sign.{Sign}
use Rattle.vortex_syntax.specs.declared.token.Sign.TheVariants as sign
use Rattle.vortex_syntax.specs.declared.token.TrimSide.TheVariants as side
use Rattle.vortex_syntax.specs.declared.pieces.Run.TheVariants.{Word}
use Rattle.vortex_syntax.specs.declared.writing.Ending.{Ending}
use Rattle.vortex_syntax.specs.declared.writing.Ending.TheVariants as at
use Rattle.vortex_syntax.specs.declared.writing.Writer.{Writer}
use Rattle.vortex_syntax.specs.Tokens.{Token, name, nullable, function, quoted, number, text, sign}
use Rattle.vortex_syntax.specs.Keywords.{keyword_of}
use Rattle.vortex_syntax.specs.Pieces.{begins_word, is_in, begins_number, behind_number}
use Rattle.vortex_syntax.specs.Pieces.{is_sized_word, behind_sized}

abbrev pub sign_text : Sign → List ℕ
sign_text sign.And = codes "and"
sign_text sign.Or = codes "or"
sign_text sign.Not = codes "not"
sign_text sign.Is = codes "is"
sign_text sign.Null = codes "null"
sign_text sign.Between = codes "between"
sign_text sign.Like = codes "like"
sign_text sign.Ilike = codes "ilike"
sign_text sign.Escape = codes "escape"
sign_text sign.True = codes "true"
sign_text sign.False = codes "false"
sign_text sign.Cast = codes "cast"
sign_text sign.As = codes "as"
sign_text sign.Distinct = codes "distinct"
sign_text sign.From = codes "from"
sign_text sign.In = codes "in"
sign_text sign.Case = codes "case"
sign_text sign.When = codes "when"
sign_text sign.Then = codes "then"
sign_text sign.Else = codes "else"
sign_text sign.End = codes "end"
sign_text sign.IsNull = codes "isnull"
sign_text sign.NotNull = codes "notnull"
sign_text sign.TryCast = codes "try_cast"
sign_text sign.Symmetric = codes "symmetric"
sign_text (sign.Side side.Both) = codes "both"
sign_text (sign.Side side.Leading) = codes "leading"
sign_text (sign.Side side.Trailing) = codes "trailing"
sign_text sign.Equal = codes "="
sign_text sign.NotEqual = codes "<>"
sign_text sign.Less = codes "<"
sign_text sign.LessOrEqual = codes "<="
sign_text sign.Greater = codes ">"
sign_text sign.GreaterOrEqual = codes ">="
sign_text sign.Plus = codes "+"
sign_text sign.Minus = codes "-"
sign_text sign.Times = codes "*"
sign_text sign.Divide = codes "/"
sign_text sign.Modulo = codes "%"
sign_text sign.Concat = codes "||"
sign_text sign.BitAnd = codes "&"
sign_text sign.BitOr = codes "|"
sign_text sign.BitXor = codes "#"
sign_text sign.BitNot = codes "~"
sign_text sign.ShiftLeft = codes "<<"
sign_text sign.ShiftRight = codes ">>"
sign_text sign.MatchAnyCase = codes "~*"
sign_text sign.NotMatch = codes "!~"
sign_text sign.NotMatchAnyCase = codes "!~*"
sign_text sign.Open = codes "("
sign_text sign.Close = codes ")"
sign_text sign.Comma = codes ","
sign_text sign.Typed = codes "::"

-- each quote within quotes is doubled
abbrev pub doubled : ℕ → List ℕ → List ℕ
doubled q [] = []
doubled q (b ∷ bs) = if b == q then b ∷ b ∷ doubled q bs else b ∷ doubled q bs

abbrev pub in_quotes : ℕ → List ℕ → List ℕ
in_quotes q bs = q ∷ (bs ++ (q ∷ []))

abbrev pub token_text : Token → List ℕ
token_text (name w) = w
token_text (nullable w) = w ++ codes "?"
token_text (function w) = w ++ codes "("
token_text (quoted w) = in_quotes 34 w
token_text (number w) = w
token_text (text bs) = in_quotes 39 bs
token_text (sign s) = sign_text s

-- A blank comes before each token, except: `)`, `,` and `::`; the first token; any token after `(`,
-- a name with its bracket, or `::`; a number after its minus sign; and the bracket of `cast`.
abbrev pub is_tight : Ending → Bool
is_tight at.Tight = true
is_tight e = false

abbrev pub joins_number : Ending → Bool
joins_number at.Tight = true
joins_number at.Signed = true
joins_number e = false

abbrev pub joins_bracket : Ending → Bool
joins_bracket at.Tight = true
joins_bracket at.Called = true
joins_bracket e = false

abbrev pub joins_sign : Ending → Sign → Bool
joins_sign e sign.Close = true
joins_sign e sign.Comma = true
joins_sign e sign.Typed = true
joins_sign e sign.Open = joins_bracket e
joins_sign e s = is_tight e

abbrev pub joins : Ending → Token → Bool
joins e (sign s) = joins_sign e s
joins e (number ds) = joins_number e
joins e t = is_tight e

abbrev pub blank_unless : Bool → List ℕ
blank_unless joined = if joined then [] else codes " "

-- What comes before the next token. A minus sign is a number's unless an operand ends before it.
abbrev pub minus_ending : Ending → Ending
minus_ending at.Operand = at.Loose
minus_ending e = at.Signed

abbrev pub sign_ending : Ending → Sign → Ending
sign_ending e sign.Open = at.Tight
sign_ending e sign.Typed = at.Tight
sign_ending e sign.Cast = at.Called
sign_ending e sign.TryCast = at.Called
sign_ending e sign.Minus = minus_ending e
sign_ending e sign.Close = at.Operand
sign_ending e sign.Null = at.Operand
sign_ending e sign.True = at.Operand
sign_ending e sign.False = at.Operand
sign_ending e sign.End = at.Operand
sign_ending e sign.IsNull = at.Operand
sign_ending e sign.NotNull = at.Operand
sign_ending e s = at.Loose

abbrev pub ending_behind : Ending → Token → Ending
ending_behind e (sign s) = sign_ending e s
ending_behind e (function w) = at.Tight
ending_behind e t = at.Operand

abbrev pub ending_of : Ending → List Token → Ending
ending_of e [] = e
ending_of e (t ∷ ts) = ending_of (ending_behind e t) ts

abbrev pub written_behind : Ending → List Token → List ℕ
written_behind e [] = []
written_behind e (t ∷ ts) =
    blank_unless (joins e t) ++ (token_text t ++ written_behind (ending_behind e t) ts)

-- the text of tokens
abbrev pub written : List Token → List ℕ
written ts = written_behind at.Tight ts

-- a letter or `_`, and letters, digits and `_`
abbrev pub is_word : List ℕ → Bool
is_word [] = false
is_word (b ∷ bs) = begins_word b && list_all (is_in Word) bs

-- a name written without quotes: a word that is no keyword
abbrev pub is_bare : List ℕ → Bool
is_bare w = is_word w && is_none (keyword_of w)

-- the name of a type with its sizes
abbrev pub is_nothing : Option (List ℕ) → Bool
is_nothing None = false
is_nothing (Some []) = true
is_nothing (Some (b ∷ bs)) = false

abbrev pub is_sized : List ℕ → Bool
is_sized w = is_nothing (behind_sized w)

-- the text of one number
abbrev pub IsNumber : List ℕ → Type 0
IsNumber w = (begins_number w ≡ true) × (behind_number w ≡ [])

abbrev pub IsDoubled : ℕ → List ℕ → Type 0
IsDoubled q bs = (raw : List ℕ) × (bs ≡ doubled q raw)

-- tokens of some text
abbrev pub IsWritable : Token → Type 0
IsWritable (name w) = (is_bare w || is_sized w) ≡ true
IsWritable (nullable w) = is_word w ≡ true
IsWritable (function w) = (is_bare w ≡ true) × (is_sized_word w ≡ false)
IsWritable (quoted w) = IsDoubled 34 w
IsWritable (number w) = IsNumber w
IsWritable (text bs) = IsDoubled 39 bs
IsWritable (sign s) = Unit {0}

abbrev pub AllWritable : List Token → Type 0
AllWritable [] = Unit {0}
AllWritable (t ∷ ts) = IsWritable t × AllWritable ts

-- the tokens of any name, and of any text
abbrev pub name_token : List ℕ → Token
name_token w = if is_bare w then name w else quoted (doubled 34 w)

abbrev pub text_token : List ℕ → Token
text_token bs = text (doubled 39 bs)

-- what is written so far
abbrev pub Holds : List Token → Writer → Type 0
Holds ts w = (string_bytes w.text ≡ written ts) × (w.ending ≡ ending_of at.Tight ts)

-- one more token is written
abbrev pub Adds : Token → Writer → Writer → Type 0
Adds t old new =
    (string_bytes new.text
    ≡ string_bytes old.text ++ blank_unless (joins old.ending t) ++ token_text t)
    × (new.ending ≡ ending_behind old.ending t)
