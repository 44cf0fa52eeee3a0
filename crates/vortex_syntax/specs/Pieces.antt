-- The first piece of a text, a gap or a token, and what follows it.
use Rattle.std.specs.Prelude.{suc, ◌==◌, ◌||◌, ◌&&◌, ◌-◌, ℕ, Bool, true, false, List, [], ◌∷◌, ◌++◌}
use Rattle.std.specs.Prelude.{length, take, Option, Some, None, codes, if◌then◌else◌}
use Rattle.std.specs.Option.{option_and_then}
use Rattle.std.specs.Char.{is_ascii_alphabetic, is_ascii_alphanumeric, is_ascii_digit}
use Rattle.vortex_syntax.specs.declared.token.Sign.{Sign}
use Rattle.vortex_syntax.specs.declared.token.Sign.TheVariants as sign
use Rattle.vortex_syntax.specs.declared.pieces.Run.{Run}
use Rattle.vortex_syntax.specs.declared.pieces.Run.TheVariants.{Word, Digits, Blank, Line}
use Rattle.vortex_syntax.specs.declared.pieces.Piece as read
use Rattle.vortex_syntax.specs.declared.pieces.Piece.TheVariants as variant
use Rattle.vortex_syntax.specs.Tokens.{Token, name, nullable, function, quoted, number, text, sign}
use Rattle.vortex_syntax.specs.Tokens.{token_in}
use Rattle.vortex_syntax.specs.Keywords.{keyword_of, same_word}

-- white space or a comment, or a token
pub data Piece : Type 0 where
  gap : Piece
  token : Token → Piece

abbrev pub piece_in : read.Piece → Piece
piece_in variant.Gap = gap
piece_in (variant.Token t) = token (token_in t)

-- a piece and what follows it, or none where no piece begins
abbrev pub Cut : Type 0
Cut = Option (Piece × List ℕ)

abbrev pub is_blank : ℕ → Bool
is_blank b = (b == 32) || (b == 9) || (b == 10) || (b == 13)

abbrev pub begins_word : ℕ → Bool
begins_word b = is_ascii_alphabetic b || (b == 95)

-- bytes of words, digits, blanks, and bytes of lines
abbrev pub is_in : Run → ℕ → Bool
is_in Word b = is_ascii_alphanumeric b || (b == 95)
is_in Digits b = is_ascii_digit b
is_in Blank b = is_blank b
is_in Line b = if b == 10 then false else (if b == 13 then false else true)

-- the bytes of that run at the start of a text, and the bytes after them
abbrev pub front : Run → List ℕ → List ℕ
front r [] = []
front r (b ∷ bs) = if is_in r b then b ∷ front r bs else []

abbrev pub behind : Run → List ℕ → List ℕ
behind r [] = []
behind r (b ∷ bs) = if is_in r b then behind r bs else b ∷ bs

-- what follows a point and digits, where a point comes first
abbrev pub behind_fraction : List ℕ → List ℕ
behind_fraction [] = []
behind_fraction (b ∷ bs) = if b == 46 then behind Digits bs else b ∷ bs

abbrev pub behind_sign : List ℕ → List ℕ
behind_sign [] = []
behind_sign (b ∷ bs) = if (b == 43) || (b == 45) then bs else b ∷ bs

abbrev pub begins_digits : List ℕ → Bool
begins_digits [] = false
begins_digits (b ∷ bs) = is_ascii_digit b

-- what follows an exponent, where one comes first: `e`, a sign if there is one, and digits
abbrev pub begins_exponent : ℕ → List ℕ → Bool
begins_exponent b bs = ((b == 69) || (b == 101)) && begins_digits (behind_sign bs)

abbrev pub behind_exponent : List ℕ → List ℕ
behind_exponent [] = []
behind_exponent (b ∷ bs) =
    if begins_exponent b bs then behind Digits (behind_sign bs) else b ∷ bs

-- a number is digits, a point and digits, and an exponent, each where it is there; a digit is in
-- one of the first two
abbrev pub begins_number : List ℕ → Bool
begins_number [] = false
begins_number (b ∷ bs) = if b == 46 then begins_digits bs else is_ascii_digit b

abbrev pub behind_number : List ℕ → List ℕ
behind_number bs = behind_exponent (behind_fraction (behind Digits bs))

abbrev pub front_number : List ℕ → List ℕ
front_number bs = take (length bs - length (behind_number bs)) bs

-- the types whose names have sizes, as in `decimal(12, 2)` and `varchar(12)`
abbrev pub is_decimal_word : List ℕ → Bool
is_decimal_word w = same_word w (codes "decimal") || same_word w (codes "numeric")

abbrev pub is_text_word : List ℕ → Bool
is_text_word w = same_word w (codes "varchar")

abbrev pub is_sized_word : List ℕ → Bool
is_sized_word w = is_decimal_word w || is_text_word w

-- what follows digits, with blanks round them
abbrev pub behind_blanks : List ℕ → Option (List ℕ)
behind_blanks bs = if begins_digits bs then Some (behind Blank (behind Digits bs)) else None

abbrev pub behind_size : List ℕ → Option (List ℕ)
behind_size bs = behind_blanks (behind Blank bs)

abbrev pub behind_close : List ℕ → Option (List ℕ)
behind_close [] = None
behind_close (b ∷ bs) = if b == 41 then Some bs else None

abbrev pub behind_last : List ℕ → Option (List ℕ)
behind_last [] = None
behind_last (b ∷ bs) =
    if b == 41 then Some bs
    else (if b == 44 then option_and_then behind_close (behind_size bs) else None)

-- what follows a bracket with one size, or two with a comma between them
abbrev pub behind_sizes : List ℕ → Option (List ℕ)
behind_sizes [] = None
behind_sizes (b ∷ bs) =
    if b == 40 then option_and_then behind_last (behind_size bs) else None

-- what follows the sizes of that word
abbrev pub sizes_at : List ℕ → List ℕ → Option (List ℕ)
sizes_at w bs = if is_sized_word w then behind_sizes bs else None

abbrev pub behind_sized : List ℕ → Option (List ℕ)
behind_sized bs = sizes_at (front Word bs) (behind Word bs)

-- an opening bracket right after a name belongs to it, unless it could be one of sizes
abbrev pub call_before : List ℕ → List ℕ → Piece × List ℕ
call_before w bs = if is_sized_word w then (token (name w), 40 ∷ bs) else (token (function w), bs)

abbrev pub name_before : List ℕ → List ℕ → Piece × List ℕ
name_before w [] = (token (name w), [])
name_before w (b ∷ bs) = if b == 40 then call_before w bs else (token (name w), b ∷ bs)

-- a word is a keyword or a name
abbrev pub keyword_or_name : List ℕ → Option Sign → List ℕ → Piece × List ℕ
keyword_or_name w None rest = name_before w rest
keyword_or_name w (Some s) rest = (token (sign s), rest)

abbrev pub word_before : List ℕ → List ℕ → Piece × List ℕ
word_before w [] = keyword_or_name w (keyword_of w) []
word_before w (b ∷ bs) =
    if b == 63 then (token (nullable w), bs) else keyword_or_name w (keyword_of w) (b ∷ bs)

-- a word with its sizes is one name
abbrev pub front_before : List ℕ → List ℕ → List ℕ
front_before bs rest = take (length bs - length rest) bs

abbrev pub sized_or_word : List ℕ → Option (List ℕ) → Piece × List ℕ
sized_or_word bs None = word_before (front Word bs) (behind Word bs)
sized_or_word bs (Some rest) = (token (name (front_before bs rest)), rest)

-- no word begins right after a number
abbrev pub number_before : List ℕ → List ℕ → Cut
number_before ds [] = Some (token (number ds), [])
number_before ds (b ∷ bs) =
    if is_in Word b then None else Some (token (number ds), b ∷ bs)

-- the text up to the first quote that is not doubled, and what follows that quote
abbrev pub with_front : List ℕ → Option (List ℕ × List ℕ) → Option (List ℕ × List ℕ)
with_front bs None = None
with_front bs (Some x) = Some (bs ++ x.0, x.1)

abbrev pub closed : ℕ → List ℕ → Option (List ℕ × List ℕ)
closed q [] = None
closed q (b ∷ []) = if b == q then Some ([], []) else None
closed q (b ∷ c ∷ bs) =
    if b == q
    then (if c == q then with_front (b ∷ c ∷ []) (closed q bs) else Some ([], c ∷ bs))
    else with_front (b ∷ []) (closed q (c ∷ bs))

abbrev pub quoted_by : (List ℕ → Token) → Option (List ℕ × List ℕ) → Cut
quoted_by make None = None
quoted_by make (Some x) = Some (token (make x.0), x.1)

-- the three-character sign, a star after `!~`; the two-character signs, and the one-character signs
abbrev pub star_before : List ℕ → Cut
star_before [] = None
star_before (b ∷ bs) = if b == 42 then Some (token (sign sign.NotMatchAnyCase), bs) else None

abbrev pub sign_of_three : ℕ → ℕ → List ℕ → Cut
sign_of_three b c bs = if (b == 33) && (c == 126) then star_before bs else None

abbrev pub sign_of_two : ℕ → ℕ → Option Sign
sign_of_two b c =
    if b == 60 then (if c == 61 then Some sign.LessOrEqual
    else (if c == 62 then Some sign.NotEqual
    else (if c == 60 then Some sign.ShiftLeft else None)))
    else (if b == 62 then (if c == 61 then Some sign.GreaterOrEqual
    else (if c == 62 then Some sign.ShiftRight else None))
    else (if b == 33 then (if c == 61 then Some sign.NotEqual
    else (if c == 126 then Some sign.NotMatch else None))
    else (if b == 126 then (if c == 42 then Some sign.MatchAnyCase else None)
    else (if b == 61 then (if c == 61 then Some sign.Equal else None)
    else (if b == 58 then (if c == 58 then Some sign.Typed else None)
    else (if b == 124 then (if c == 124 then Some sign.Concat else None) else None))))))

abbrev pub sign_of_one : ℕ → Option Sign
sign_of_one b =
    if b == 61 then Some sign.Equal
    else (if b == 60 then Some sign.Less
    else (if b == 62 then Some sign.Greater
    else (if b == 43 then Some sign.Plus
    else (if b == 42 then Some sign.Times
    else (if b == 37 then Some sign.Modulo
    else (if b == 38 then Some sign.BitAnd
    else (if b == 124 then Some sign.BitOr
    else (if b == 35 then Some sign.BitXor
    else (if b == 126 then Some sign.BitNot
    else (if b == 40 then Some sign.Open
    else (if b == 41 then Some sign.Close
    else (if b == 44 then Some sign.Comma else None))))))))))))

abbrev pub sign_before : List ℕ → Option Sign → Cut
sign_before rest None = None
sign_before rest (Some s) = Some (token (sign s), rest)

abbrev pub or_else : Cut → Cut → Cut
or_else None other = other
or_else (Some x) other = Some x

abbrev pub longest_sign : ℕ → List ℕ → Cut
longest_sign b [] = sign_before [] (sign_of_one b)
longest_sign b (c ∷ bs) =
    or_else (sign_of_three b c bs)
    (or_else (sign_before bs (sign_of_two b c)) (sign_before (c ∷ bs) (sign_of_one b)))

-- two minus signs begin a comment, which ends with its line
abbrev pub minus_or_comment : List ℕ → Cut
minus_or_comment [] = Some (token (sign sign.Minus), [])
minus_or_comment (c ∷ bs) =
    if c == 45 then Some (gap, behind Line bs) else Some (token (sign sign.Minus), c ∷ bs)

-- what follows a comment between `/*` and `*/`, inside of as many more
abbrev pub behind_comment : ℕ → List ℕ → Option (List ℕ)
behind_comment d [] = None
behind_comment d (b ∷ []) = None
behind_comment d (b ∷ c ∷ bs) =
    if (b == 47) && (c == 42) then behind_comment (suc d) bs
    else (if (b == 42) && (c == 47) then (if d == 0 then Some bs else behind_comment (d - 1) bs)
    else behind_comment d (c ∷ bs))

abbrev pub gap_before : Option (List ℕ) → Cut
gap_before None = None
gap_before (Some bs) = Some (gap, bs)

abbrev pub divide_or_comment : List ℕ → Cut
divide_or_comment [] = Some (token (sign sign.Divide), [])
divide_or_comment (c ∷ bs) =
    if c == 42 then gap_before (behind_comment 0 bs)
    else Some (token (sign sign.Divide), c ∷ bs)

unfoldable pub first_piece : List ℕ → Cut
first_piece [] = None
first_piece (b ∷ bs) =
    if is_blank b then Some (gap, bs)
    else (if b == 45 then minus_or_comment bs
    else (if b == 47 then divide_or_comment bs
    else (if begins_word b then Some (sized_or_word (b ∷ bs) (behind_sized (b ∷ bs)))
    else (if begins_number (b ∷ bs)
    then number_before (front_number (b ∷ bs)) (behind_number (b ∷ bs))
    else (if b == 39 then quoted_by text (closed 39 bs)
    else (if b == 34 then quoted_by quoted (closed 34 bs)
    else longest_sign b bs))))))
