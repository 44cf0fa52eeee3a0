-- Written tokens are read back as those tokens.
use Rattle.std.proofs.Common.{◌≡◌, ℕ, Bool, true, false, ◌==◌, List, [], ◌∷◌, ◌++◌, Some, refl, ap}
use Rattle.std.proofs.Common.{sym, ◌∙◌, append_assoc}
use Rattle.std.specs.Prelude.{codes}
use Rattle.std.proofs.lemmas.List.{append-nil}
use Rattle.std.proofs.lemmas.Bool.{false≢true}
use Rattle.vortex_syntax.specs.declared.token.Sign.{Sign}
use Rattle.vortex_syntax.specs.declared.token.Sign.TheVariants as sign
use Rattle.vortex_syntax.specs.declared.token.TrimSide.TheVariants as side
use Rattle.vortex_syntax.specs.declared.writing.Ending.{Ending}
use Rattle.vortex_syntax.specs.declared.writing.Ending.TheVariants as at
use Rattle.vortex_syntax.specs.declared.writing.Writer.{Writer}
use Rattle.vortex_syntax.specs.Tokens.{Token, name, nullable, function, quoted, number, text, sign}
use Rattle.vortex_syntax.specs.Keywords.{keyword_of}
use Rattle.vortex_syntax.specs.Pieces.{gap, token, first_piece}
use Rattle.vortex_syntax.specs.Lexing.{Lexes, none, gap_first, token_first}
use Rattle.vortex_syntax.specs.Syntax.{Syntax}
use Rattle.vortex_syntax.specs.Levels.{Fits}
use Rattle.vortex_syntax.specs.Spelling.{spelling}
use Rattle.vortex_syntax.specs.Nesting.{nests}
use Rattle.vortex_syntax.specs.Grammar.{Reads}
use Rattle.vortex_syntax.specs.Writing.{sign_text, token_text, is_tight, joins_number}
use Rattle.vortex_syntax.specs.Writing.{joins_bracket, joins_sign, joins, blank_unless}
use Rattle.vortex_syntax.specs.Writing.{minus_ending, sign_ending, ending_behind, ending_of}
use Rattle.vortex_syntax.specs.Writing.{written_behind, written, IsNumber, IsWritable, AllWritable}
use Rattle.vortex_syntax.specs.Writing.{Holds, Adds}
use Rattle.vortex_syntax.proofs.Numbers.{first_byte}
use Rattle.vortex_syntax.proofs.WrittenPieces.{Stops, NoMinus, no_minus_of, NoBracket, above}
use Rattle.vortex_syntax.proofs.WrittenPieces.{known_piece, written_name, function_piece}
use Rattle.vortex_syntax.proofs.WrittenPieces.{nullable_piece, number_piece, text_piece}
use Rattle.vortex_syntax.proofs.WrittenPieces.{quoted_piece}

-- what may follow, by what comes before
abbrev Follows : Ending → List ℕ → Type 0
Follows at.Tight bs = Unit {0}
Follows at.Signed bs = NoMinus bs
Follows at.Called bs = Stops bs
Follows e bs = Stops bs × NoBracket bs

open_piece : (rest : List ℕ) → first_piece (40 ∷ rest) ≡ Some (token (sign sign.Open), rest)
unfolding first_piece
open_piece [] = refl
open_piece (c ∷ cs) = refl

typed_piece : (rest : List ℕ) → first_piece (58 ∷ 58 ∷ rest) ≡ Some (token (sign sign.Typed), rest)
unfolding first_piece
typed_piece rest = refl

minus_piece : (rest : List ℕ) → NoMinus rest
    → first_piece (45 ∷ rest) ≡ Some (token (sign sign.Minus), rest)
unfolding first_piece
minus_piece [] n = refl
minus_piece (c ∷ cs) n = let other : (c == 45) ≡ false = n in rw other refl

minus_follows : (e : Ending) (rest : List ℕ) → Follows (minus_ending e) rest → NoMinus rest
minus_follows at.Operand rest f = no_minus_of rest f.0
minus_follows at.Tight rest f = f
minus_follows at.Signed rest f = f
minus_follows at.Called rest f = f
minus_follows at.Loose rest f = f

less_piece : (rest : List ℕ) → Stops rest
    → first_piece (60 ∷ rest) ≡ Some (token (sign sign.Less), rest)
unfolding first_piece
less_piece [] s = refl
less_piece (c ∷ cs) s = let equal : (c == 61) ≡ false = s.4 in
    let greater : (c == 62) ≡ false = s.5 in
    let less : (c == 60) ≡ false = s.9 in rw (equal, greater, less) refl

greater_piece : (rest : List ℕ) → Stops rest
    → first_piece (62 ∷ rest) ≡ Some (token (sign sign.Greater), rest)
unfolding first_piece
greater_piece [] s = refl
greater_piece (c ∷ cs) s = let equal : (c == 61) ≡ false = s.4 in
    let greater : (c == 62) ≡ false = s.5 in rw (equal, greater) refl

equal_piece : (rest : List ℕ) → Stops rest
    → first_piece (61 ∷ rest) ≡ Some (token (sign sign.Equal), rest)
unfolding first_piece
equal_piece [] s = refl
equal_piece (c ∷ cs) s = let equal : (c == 61) ≡ false = s.4 in rw equal refl

bit_or_piece : (rest : List ℕ) → Stops rest
    → first_piece (124 ∷ rest) ≡ Some (token (sign sign.BitOr), rest)
unfolding first_piece
bit_or_piece [] s = refl
bit_or_piece (c ∷ cs) s = let bar : (c == 124) ≡ false = s.10 in rw bar refl

divide_piece : (rest : List ℕ) → Stops rest
    → first_piece (47 ∷ rest) ≡ Some (token (sign sign.Divide), rest)
unfolding first_piece
divide_piece [] s = refl
divide_piece (c ∷ cs) s = let other : (c == 42) ≡ false = s.8 in rw other refl

bit_not_piece : (rest : List ℕ) → Stops rest
    → first_piece (126 ∷ rest) ≡ Some (token (sign sign.BitNot), rest)
unfolding first_piece
bit_not_piece [] s = refl
bit_not_piece (c ∷ cs) s = let star : (c == 42) ≡ false = s.8 in rw star refl

not_match_piece : (rest : List ℕ) → Stops rest
    → first_piece (33 ∷ 126 ∷ rest) ≡ Some (token (sign sign.NotMatch), rest)
unfolding first_piece
not_match_piece [] s = refl
not_match_piece (c ∷ cs) s = let star : (c == 42) ≡ false = s.8 in rw star refl

-- the other signs
plain_piece : (s : Sign) (rest : List ℕ) → Stops rest
    → first_piece (sign_text s ++ rest) ≡ Some (token (sign s), rest)
unfolding first_piece keyword_of
plain_piece sign.And rest s = known_piece (codes "and") rest (Some sign.And) refl refl refl s
plain_piece sign.Or rest s = known_piece (codes "or") rest (Some sign.Or) refl refl refl s
plain_piece sign.Not rest s = known_piece (codes "not") rest (Some sign.Not) refl refl refl s
plain_piece sign.Is rest s = known_piece (codes "is") rest (Some sign.Is) refl refl refl s
plain_piece sign.Null rest s = known_piece (codes "null") rest (Some sign.Null) refl refl refl s
plain_piece sign.Between rest s = known_piece (codes "between") rest (Some sign.Between) refl refl refl s
plain_piece sign.Like rest s = known_piece (codes "like") rest (Some sign.Like) refl refl refl s
plain_piece sign.Ilike rest s = known_piece (codes "ilike") rest (Some sign.Ilike) refl refl refl s
plain_piece sign.Escape rest s = known_piece (codes "escape") rest (Some sign.Escape) refl refl refl s
plain_piece sign.True rest s = known_piece (codes "true") rest (Some sign.True) refl refl refl s
plain_piece sign.False rest s = known_piece (codes "false") rest (Some sign.False) refl refl refl s
plain_piece sign.Cast rest s = known_piece (codes "cast") rest (Some sign.Cast) refl refl refl s
plain_piece sign.As rest s = known_piece (codes "as") rest (Some sign.As) refl refl refl s
plain_piece sign.Distinct rest s =
    known_piece (codes "distinct") rest (Some sign.Distinct) refl refl refl s
plain_piece sign.In rest s = known_piece (codes "in") rest (Some sign.In) refl refl refl s
plain_piece sign.Case rest s = known_piece (codes "case") rest (Some sign.Case) refl refl refl s
plain_piece sign.When rest s = known_piece (codes "when") rest (Some sign.When) refl refl refl s
plain_piece sign.Then rest s = known_piece (codes "then") rest (Some sign.Then) refl refl refl s
plain_piece sign.Else rest s = known_piece (codes "else") rest (Some sign.Else) refl refl refl s
plain_piece sign.End rest s = known_piece (codes "end") rest (Some sign.End) refl refl refl s
plain_piece sign.IsNull rest s = known_piece (codes "isnull") rest (Some sign.IsNull) refl refl refl s
plain_piece sign.NotNull rest s = known_piece (codes "notnull") rest (Some sign.NotNull) refl refl refl s
plain_piece sign.TryCast rest s =
    known_piece (codes "try_cast") rest (Some sign.TryCast) refl refl refl s
plain_piece sign.Symmetric rest s =
    known_piece (codes "symmetric") rest (Some sign.Symmetric) refl refl refl s
plain_piece (sign.Side side.Both) rest s =
    known_piece (codes "both") rest (Some (sign.Side side.Both)) refl refl refl s
plain_piece (sign.Side side.Leading) rest s =
    known_piece (codes "leading") rest (Some (sign.Side side.Leading)) refl refl refl s
plain_piece (sign.Side side.Trailing) rest s =
    known_piece (codes "trailing") rest (Some (sign.Side side.Trailing)) refl refl refl s
plain_piece sign.From rest s = known_piece (codes "from") rest (Some sign.From) refl refl refl s
plain_piece sign.Equal rest s = equal_piece rest s
plain_piece sign.NotEqual rest s = refl
plain_piece sign.Less rest s = less_piece rest s
plain_piece sign.LessOrEqual rest s = refl
plain_piece sign.Greater rest s = greater_piece rest s
plain_piece sign.GreaterOrEqual rest s = refl
plain_piece sign.Plus [] s = refl
plain_piece sign.Plus (c ∷ cs) s = refl
plain_piece sign.Minus rest s = minus_piece rest (no_minus_of rest s)
plain_piece sign.Times [] s = refl
plain_piece sign.Times (c ∷ cs) s = refl
plain_piece sign.Divide rest s = divide_piece rest s
plain_piece sign.Modulo [] s = refl
plain_piece sign.Modulo (c ∷ cs) s = refl
plain_piece sign.Concat rest s = refl
plain_piece sign.BitAnd [] s = refl
plain_piece sign.BitAnd (c ∷ cs) s = refl
plain_piece sign.BitOr rest s = bit_or_piece rest s
plain_piece sign.BitXor [] s = refl
plain_piece sign.BitXor (c ∷ cs) s = refl
plain_piece sign.BitNot rest s = bit_not_piece rest s
plain_piece sign.ShiftLeft rest s = refl
plain_piece sign.ShiftRight rest s = refl
plain_piece sign.MatchAnyCase rest s = refl
plain_piece sign.NotMatch rest s = not_match_piece rest s
plain_piece sign.NotMatchAnyCase rest s = refl
plain_piece sign.Open rest s = open_piece rest
plain_piece sign.Close [] s = refl
plain_piece sign.Close (c ∷ cs) s = refl
plain_piece sign.Comma [] s = refl
plain_piece sign.Comma (c ∷ cs) s = refl
plain_piece sign.Typed rest s = typed_piece rest

sign_piece : (e : Ending) (s : Sign) (rest : List ℕ) → Follows (sign_ending e s) rest
    → first_piece (sign_text s ++ rest) ≡ Some (token (sign s), rest)
sign_piece e sign.Open rest f = open_piece rest
sign_piece e sign.Typed rest f = typed_piece rest
sign_piece e sign.Minus rest f = minus_piece rest (minus_follows e rest f)
sign_piece e sign.Cast rest f = plain_piece sign.Cast rest f
sign_piece e sign.TryCast rest f = plain_piece sign.TryCast rest f
sign_piece e s rest f = plain_piece s rest f.0

token_piece : (e : Ending) (t : Token) (rest : List ℕ) → IsWritable t
    → Follows (ending_behind e t) rest → first_piece (token_text t ++ rest) ≡ Some (token t, rest)
token_piece e (name w) rest h f = written_name w rest h f.0 f.1
token_piece e (nullable w) rest h f = nullable_piece w rest h
token_piece e (function w) rest h f = function_piece w rest h.0 h.1
token_piece e (quoted w) rest h f = quoted_piece w rest h f.0
token_piece e (number ds) rest h f = number_piece ds rest h f.0
token_piece e (text bs) rest h f = text_piece bs rest h f.0
token_piece e (sign s) rest h f = sign_piece e s rest f

-- what is written next may follow
blank_stops : (xs : List ℕ) → Stops (32 ∷ xs)
blank_stops xs = (refl, refl, refl, refl, refl, refl, refl, refl, refl, refl, refl)

bracket_stops : (b : Bool) (xs : List ℕ) → Stops (blank_unless b ++ (40 ∷ xs))
bracket_stops true xs = (refl, refl, refl, refl, refl, refl, refl, refl, refl, refl, refl)
bracket_stops false xs = blank_stops (40 ∷ xs)

sign_stops : (e : Ending) (s : Sign) (xs : List ℕ) → is_tight e ≡ false
    → Stops (blank_unless (joins_sign e s) ++ (sign_text s ++ xs))
sign_stops e sign.Close xs h = (refl, refl, refl, refl, refl, refl, refl, refl, refl, refl, refl)
sign_stops e sign.Comma xs h = (refl, refl, refl, refl, refl, refl, refl, refl, refl, refl, refl)
sign_stops e sign.Typed xs h = (refl, refl, refl, refl, refl, refl, refl, refl, refl, refl, refl)
sign_stops e sign.Open xs h = bracket_stops (joins_bracket e) xs
sign_stops e s xs h = rw h (blank_stops (sign_text s ++ xs))

token_stops : (e : Ending) (t : Token) (xs : List ℕ) → is_tight e ≡ false → joins_number e ≡ false
    → Stops (blank_unless (joins e t) ++ (token_text t ++ xs))
token_stops e (sign s) xs h k = sign_stops e s xs h
token_stops e (number ds) xs h k = rw k (blank_stops (ds ++ xs))
token_stops e t xs h k = rw h (blank_stops (token_text t ++ xs))

sign_no_bracket : (e : Ending) (s : Sign) (xs : List ℕ) → is_tight e ≡ false
    → joins_bracket e ≡ false → NoBracket (blank_unless (joins_sign e s) ++ (sign_text s ++ xs))
sign_no_bracket e sign.Close xs h k = refl
sign_no_bracket e sign.Comma xs h k = refl
sign_no_bracket e sign.Typed xs h k = refl
sign_no_bracket e sign.Open xs h k = rw k refl
sign_no_bracket e s xs h k = rw h refl

no_bracket : (e : Ending) (t : Token) (xs : List ℕ) → is_tight e ≡ false → joins_number e ≡ false
    → joins_bracket e ≡ false → NoBracket (blank_unless (joins e t) ++ (token_text t ++ xs))
no_bracket e (sign s) xs h k j = sign_no_bracket e s xs h j
no_bracket e (number ds) xs h k j = rw k refl
no_bracket e t xs h k j = rw h refl

number_no_minus : (ds xs : List ℕ) → IsNumber ds → NoMinus (ds ++ xs)
number_no_minus [] xs h = absurd (false≢true h.0)
number_no_minus (d ∷ ds) xs h = above d 45 (first_byte d ds h.0).high

signed_no_minus : (t : Token) (xs : List ℕ) → IsWritable t
    → NoMinus (blank_unless (joins at.Signed t) ++ (token_text t ++ xs))
signed_no_minus (sign s) xs h =
    no_minus_of (blank_unless (joins_sign at.Signed s) ++ (sign_text s ++ xs))
    (sign_stops at.Signed s xs refl)
signed_no_minus (number ds) xs h = number_no_minus ds xs h
signed_no_minus (name w) xs h = refl
signed_no_minus (nullable w) xs h = refl
signed_no_minus (function w) xs h = refl
signed_no_minus (quoted w) xs h = refl
signed_no_minus (text bs) xs h = refl

follows : (e : Ending) (ts : List Token) → AllWritable ts → Follows e (written_behind e ts)
follows at.Tight ts h = tt
follows at.Signed [] h = tt
follows at.Signed (t ∷ ts) h = signed_no_minus t (written_behind (ending_behind at.Signed t) ts) h.0
follows at.Called [] h = tt
follows at.Called (t ∷ ts) h =
    token_stops at.Called t (written_behind (ending_behind at.Called t) ts) refl refl
follows at.Operand [] h = (tt, tt)
follows at.Operand (t ∷ ts) h = (
  token_stops at.Operand t (written_behind (ending_behind at.Operand t) ts) refl refl,
  no_bracket at.Operand t (written_behind (ending_behind at.Operand t) ts) refl refl refl,
)
follows at.Loose [] h = (tt, tt)
follows at.Loose (t ∷ ts) h = (
  token_stops at.Loose t (written_behind (ending_behind at.Loose t) ts) refl refl,
  no_bracket at.Loose t (written_behind (ending_behind at.Loose t) ts) refl refl refl,
)

-- all tokens
blank_is : (xs : List ℕ) → first_piece (32 ∷ xs) ≡ Some (gap, xs)
unfolding first_piece
blank_is xs = refl

blank_first : (b : Bool) (xs : List ℕ) (ts : List Token) → Lexes xs ts
    → Lexes (blank_unless b ++ xs) ts
blank_first true xs ts l = l
blank_first false xs ts l = gap_first (blank_is xs) l

pub lexes : (e : Ending) (ts : List Token) → AllWritable ts → Lexes (written_behind e ts) ts
lexes e [] h = none
lexes e (t ∷ ts) h =
    let rest = written_behind (ending_behind e t) ts in
    blank_first (joins e t) (token_text t ++ rest) (t ∷ ts)
    (token_first (token_piece e t rest h.0 (follows (ending_behind e t) ts h.1))
    (lexes (ending_behind e t) ts h.1))

pub read_back : (t : Syntax) → Fits t → AllWritable (spelling t) → nests (spelling t) ≡ true
    → Reads (written (spelling t)) t
read_back t f w n = record {
  ts = spelling t;
  lexed = lexes at.Tight (spelling t) w;
  spelled = record { levels = f; tokens = refl };
  nested = n;
}

-- what is written, token by token
regrouped : (a b c d : List ℕ) → a ++ (b ++ (c ++ d)) ≡ (a ++ (b ++ c)) ++ d
regrouped a b c d = simp append_assoc

pub written_append : (e : Ending) (ts us : List Token)
    → written_behind e (ts ++ us) ≡ written_behind e ts ++ written_behind (ending_of e ts) us
written_append e [] us = refl
written_append e (t ∷ ts) us =
    let more = ending_behind e t in
    ap (λ xs. blank_unless (joins e t) ++ (token_text t ++ xs)) (written_append more ts us)
    ∙ regrouped (blank_unless (joins e t)) (token_text t) (written_behind more ts)
    (written_behind (ending_of more ts) us)

pub ending_append : (e : Ending) (ts us : List Token)
    → ending_of e (ts ++ us) ≡ ending_of (ending_of e ts) us
ending_append e [] us = refl
ending_append e (t ∷ ts) us = ending_append (ending_behind e t) ts us

last_one : (a b c : List ℕ) → a ++ b ++ c ≡ a ++ (b ++ (c ++ []))
last_one a b c = simp (append_assoc, append-nil)

pub holds_more : (ts : List Token) (t : Token) (w v : Writer) → Holds ts w → Adds t w v
    → Holds (ts ++ (t ∷ [])) v
holds_more ts t w v h a = (
  a.0
      ∙ ap (λ xs. xs ++ blank_unless (joins w.ending t) ++ token_text t) h.0
      ∙ ap (λ e. written ts ++ blank_unless (joins e t) ++ token_text t) h.1
      ∙ last_one (written ts) (blank_unless (joins (ending_of at.Tight ts) t)) (token_text t)
      ∙ sym (written_append at.Tight ts (t ∷ [])),
  a.1 ∙ ap (λ e. ending_behind e t) h.1 ∙ sym (ending_append at.Tight ts (t ∷ [])),
)
