-- The pieces that written words, numbers and texts are read as.
use Rattle.std.proofs.Common.{◌≡◌, ℕ, ◌<◌, Bool, true, false, cond, ◌==◌, ◌||◌, List, [], ◌∷◌, ◌++◌}
use Rattle.std.proofs.Common.{Option, Some, None, refl, ap, sym, ◌∙◌, append_assoc, arith}
use Rattle.std.specs.Prelude.{codes, is_none}
use Rattle.std.specs.List.{list_all}
use Rattle.std.specs.Int.{is_in_range}
use Rattle.std.proofs.lemmas.Bool.{and_parts, and_from, or_parts, eq-eqb, false≢true}
use Rattle.std.proofs.lemmas.Bool.Decides.{nat_tests}
use Rattle.vortex_syntax.specs.declared.token.Sign.{Sign}
use Rattle.vortex_syntax.specs.declared.pieces.Run.TheVariants.{Word, Digits}
use Rattle.vortex_syntax.specs.Tokens.{name, nullable, function, quoted, number, text}
use Rattle.vortex_syntax.specs.Keywords.{keyword_of}
use Rattle.vortex_syntax.specs.Pieces.{token, is_blank, begins_word, is_in, behind}
use Rattle.vortex_syntax.specs.Pieces.{name_before, keyword_or_name, word_before, number_before}
use Rattle.vortex_syntax.specs.Pieces.{begins_number, behind_number, front_number, with_front}
use Rattle.vortex_syntax.specs.Pieces.{closed, quoted_by, first_piece, is_sized_word, sizes_at}
use Rattle.vortex_syntax.specs.Pieces.{behind_sizes, behind_sized, sized_or_word, front_before}
use Rattle.vortex_syntax.specs.Writing.{doubled, in_quotes, is_word, is_bare, IsNumber, IsDoubled}
use Rattle.vortex_syntax.specs.Writing.{is_sized}
use Rattle.vortex_syntax.proofs.SizedNames.{sized_before, front_cut, BeginsWord, sized_begins}
use Rattle.vortex_syntax.proofs.Runs.{EndsRun, word_begun, front_all, behind_all}
use Rattle.vortex_syntax.proofs.Numbers.{NoPoint, NoMark, number_behind, number_front, number_begun}
use Rattle.vortex_syntax.proofs.Numbers.{first_byte}
use Rattle.vortex_syntax.proofs.Quotes.{closed_other, closed_twice}

-- no token continues with these bytes
abbrev pub Stops : List ℕ → Type 0
Stops [] = Unit {0}
Stops (c ∷ cs) =
    (is_in Word c ≡ false) × ((c == 63) ≡ false) × ((c == 34) ≡ false) × ((c == 39) ≡ false)
    × ((c == 61) ≡ false) × ((c == 62) ≡ false) × ((c == 45) ≡ false) × ((c == 46) ≡ false)
    × ((c == 42) ≡ false) × ((c == 60) ≡ false) × ((c == 124) ≡ false)

abbrev pub NoMinus : List ℕ → Type 0
NoMinus [] = Unit {0}
NoMinus (c ∷ cs) = (c == 45) ≡ false

pub no_minus_of : (bs : List ℕ) → Stops bs → NoMinus bs
no_minus_of [] s = tt
no_minus_of (c ∷ cs) s = s.6

ends_word : (bs : List ℕ) → Stops bs → EndsRun Word bs
ends_word [] s = tt
ends_word (c ∷ cs) s = s.0

-- letters and digits are bytes of words
no_digit : (c : ℕ) → is_in Word c ≡ false → is_in Digits c ≡ false
no_digit c h =
    let u = or_parts ((is_in_range 48 57 c || is_in_range 65 90 c) || is_in_range 97 122 c)
    (c == 95) h in
    let b = or_parts (is_in_range 48 57 c || is_in_range 65 90 c) (is_in_range 97 122 c) u.0 in
    (or_parts (is_in_range 48 57 c) (is_in_range 65 90 c) b.0).0

is_letter : (b : ℕ) → ((b == 69) || (b == 101)) ≡ true → is_in Word b ≡ true
is_letter b h = grind (arith, nat_tests)

no_letter_if : (c : ℕ) (v : Bool) → ((c == 69) || (c == 101)) ≡ v → is_in Word c ≡ false
    → ((c == 69) || (c == 101)) ≡ false
no_letter_if c true k h = absurd (false≢true (sym h ∙ is_letter c k))
no_letter_if c false k h = k

ends_digits : (bs : List ℕ) → Stops bs → EndsRun Digits bs
ends_digits [] s = tt
ends_digits (c ∷ cs) s = no_digit c s.0

ends_point : (bs : List ℕ) → Stops bs → NoPoint bs
ends_point [] s = tt
ends_point (c ∷ cs) s = s.7

ends_mark : (bs : List ℕ) → Stops bs → NoMark bs
ends_mark [] s = tt
ends_mark (c ∷ cs) s = no_letter_if c ((c == 69) || (c == 101)) refl s.0

abbrev EndsQuote : ℕ → List ℕ → Type 0
EndsQuote q [] = Unit {0}
EndsQuote q (c ∷ cs) = (c == q) ≡ false

ends_double : (bs : List ℕ) → Stops bs → EndsQuote 34 bs
ends_double [] s = tt
ends_double (c ∷ cs) s = s.2

ends_single : (bs : List ℕ) → Stops bs → EndsQuote 39 bs
ends_single [] s = tt
ends_single (c ∷ cs) s = s.3

abbrev pub NoBracket : List ℕ → Type 0
NoBracket = EndsQuote 40

-- bytes by their order
pub above : (b q : ℕ) → q < b → (b == q) ≡ false
above b q h = grind (arith, nat_tests)

not_blank : (b : ℕ) → 32 < b → is_blank b ≡ false
not_blank b h = grind (arith, nat_tests)

word_from : (b : ℕ) → begins_word b ≡ true → 64 < b
word_from b h = grind (arith, nat_tests)

-- no sizes begin without a bracket
none_if : (v : Bool) (o : Option (List ℕ)) → o ≡ None → cond v o None ≡ None
none_if true o e = e
none_if false o e = refl

no_bracket_sizes : (rest : List ℕ) → NoBracket rest → behind_sizes rest ≡ None
no_bracket_sizes [] b = refl
no_bracket_sizes (c ∷ cs) b = let other : (c == 40) ≡ false = b in rw other refl

no_sizes : (w rest : List ℕ) → NoBracket rest → sizes_at w rest ≡ None
no_sizes w rest b = none_if (is_sized_word w) (behind_sizes rest) (no_bracket_sizes rest b)

-- words
word_begins : (b : ℕ) (xs : List ℕ) → is_blank b ≡ false → (b == 45) ≡ false → (b == 47) ≡ false
    → begins_word b ≡ true
    → first_piece (b ∷ xs) ≡ Some (sized_or_word (b ∷ xs) (behind_sized (b ∷ xs)))
unfolding first_piece
word_begins b xs n m o w = rw (n, m, o, w) refl

word_piece : (w rest : List ℕ) → is_word w ≡ true → EndsRun Word rest → sizes_at w rest ≡ None
    → first_piece (w ++ rest) ≡ Some (word_before w rest)
word_piece [] rest h e n = absurd (false≢true h)
word_piece (b ∷ bs) rest h e n =
    let p = and_parts (begins_word b) (list_all (is_in Word) bs) h in
    let from = word_from b p.0 in
    let all = and_from (is_in Word b) (list_all (is_in Word) bs) (word_begun b p.0) p.1 in
    word_begins b (bs ++ rest) (not_blank b (omega (arith, from)))
    (above b 45 (omega (arith, from))) (above b 47 (omega (arith, from))) p.0
    ∙ ap (λ o. Some (sized_or_word (b ∷ (bs ++ rest)) o))
    (ap (λ ys. sizes_at ys (behind Word (b ∷ (bs ++ rest)))) (front_all Word (b ∷ bs) rest all e)
    ∙ ap (sizes_at (b ∷ bs)) (behind_all Word (b ∷ bs) rest all e) ∙ n)
    ∙ ap (λ ys. Some (word_before ys (behind Word (b ∷ (bs ++ rest)))))
    (front_all Word (b ∷ bs) rest all e)
    ∙ ap (λ ys. Some (word_before (b ∷ bs) ys)) (behind_all Word (b ∷ bs) rest all e)

word_ends : (w rest : List ℕ) → Stops rest
    → word_before w rest ≡ keyword_or_name w (keyword_of w) rest
word_ends w [] s = refl
word_ends w (c ∷ cs) s = let other : (c == 63) ≡ false = s.1 in rw other refl

pub known_piece : (w rest : List ℕ) (o : Option Sign) → is_word w ≡ true → keyword_of w ≡ o
    → sizes_at w rest ≡ None → Stops rest
    → first_piece (w ++ rest) ≡ Some (keyword_or_name w o rest)
known_piece w rest o h k n s =
    word_piece w rest h (ends_word rest s) n ∙ ap (λ x. Some x) (word_ends w rest s)
    ∙ ap (λ p. Some (keyword_or_name w p rest)) k

none_is : (o : Option Sign) → is_none o ≡ true → o ≡ None
none_is None h = refl
none_is (Some s) h = absurd (false≢true h)

name_ends : (w rest : List ℕ) → NoBracket rest → name_before w rest ≡ (token (name w), rest)
name_ends w [] b = refl
name_ends w (c ∷ cs) b = let other : (c == 40) ≡ false = b in rw other refl

name_piece : (w rest : List ℕ) → is_bare w ≡ true → Stops rest → NoBracket rest
    → first_piece (w ++ rest) ≡ Some (token (name w), rest)
name_piece w rest h s b =
    let p = and_parts (is_word w) (is_none (keyword_of w)) h in
    known_piece w rest None p.0 (none_is (keyword_of w) p.1) (no_sizes w rest b) s
    ∙ ap (λ x. Some x) (name_ends w rest b)

sized_piece_of : (xs rest : List ℕ) → behind_sized xs ≡ Some rest → BeginsWord xs
    → first_piece xs ≡ Some (token (name (front_before xs rest)), rest)
sized_piece_of [] rest e h = absurd h
sized_piece_of (b ∷ bs) rest e h =
    let from = word_from b h in
    word_begins b bs (not_blank b (omega (arith, from))) (above b 45 (omega (arith, from)))
    (above b 47 (omega (arith, from))) h
    ∙ ap (λ o. Some (sized_or_word (b ∷ bs) o)) e

pub sized_piece : (w rest : List ℕ) → is_sized w ≡ true
    → first_piece (w ++ rest) ≡ Some (token (name w), rest)
sized_piece w rest h =
    let e = sized_before w rest h in
    sized_piece_of (w ++ rest) rest e (sized_begins (w ++ rest) rest e)
    ∙ ap (λ v. Some (token (name v), rest)) (front_cut w rest)

named_if : (w rest : List ℕ) (v : Bool) → is_bare w ≡ v → (v || is_sized w) ≡ true → Stops rest
    → NoBracket rest → first_piece (w ++ rest) ≡ Some (token (name w), rest)
named_if w rest true h k s b = name_piece w rest h s b
named_if w rest false h k s b = sized_piece w rest k

pub written_name : (w rest : List ℕ) → (is_bare w || is_sized w) ≡ true → Stops rest
    → NoBracket rest → first_piece (w ++ rest) ≡ Some (token (name w), rest)
written_name w rest h s b = named_if w rest (is_bare w) refl h s b

pub function_piece : (w rest : List ℕ) → is_bare w ≡ true → is_sized_word w ≡ false
    → first_piece ((w ++ codes "(") ++ rest) ≡ Some (token (function w), rest)
function_piece w rest h n =
    let p = and_parts (is_word w) (is_none (keyword_of w)) h in
    ap first_piece (append_assoc w (codes "(") rest)
    ∙ word_piece w (40 ∷ rest) p.0 refl (ap (λ b. cond b (behind_sizes (40 ∷ rest)) None) n)
    ∙ ap (λ o. Some (keyword_or_name w o (40 ∷ rest))) (none_is (keyword_of w) p.1)
    ∙ ap (λ b. Some (cond b (token (name w), 40 ∷ rest) (token (function w), rest))) n

pub nullable_piece : (w rest : List ℕ) → is_word w ≡ true
    → first_piece ((w ++ codes "?") ++ rest) ≡ Some (token (nullable w), rest)
nullable_piece w rest h = ap first_piece (append_assoc w (codes "?") rest)
    ∙ word_piece w (63 ∷ rest) h refl (no_sizes w (63 ∷ rest) refl)

-- numbers
number_begins : (d : ℕ) (xs : List ℕ) → is_blank d ≡ false → (d == 45) ≡ false
    → (d == 47) ≡ false → begins_word d ≡ false → begins_number (d ∷ xs) ≡ true
    → first_piece (d ∷ xs) ≡ number_before (front_number (d ∷ xs)) (behind_number (d ∷ xs))
unfolding first_piece
number_begins d xs n m o w h = rw (n, m, o, w, h) refl

number_ends : (ds rest : List ℕ) → Stops rest
    → number_before ds rest ≡ Some (token (number ds), rest)
number_ends ds [] s = refl
number_ends ds (c ∷ cs) s = let other : is_in Word c ≡ false = s.0 in rw other refl

pub number_piece : (ds rest : List ℕ) → IsNumber ds → Stops rest
    → first_piece (ds ++ rest) ≡ Some (token (number ds), rest)
number_piece [] rest h s = absurd (false≢true h.0)
number_piece (d ∷ ds) rest h s =
    let first = first_byte d ds h.0 in
    let rest_is = number_behind (d ∷ ds) rest h.1 (ends_digits rest s) (ends_point rest s)
    (ends_mark rest s) in
    number_begins d (ds ++ rest) (not_blank d (omega (arith, first.high))) (above d 45 first.high)
    first.no_slash first.no_word (number_begun (d ∷ ds) rest h.0)
    ∙ ap (λ ys. number_before ys (behind_number (d ∷ (ds ++ rest))))
    (number_front (d ∷ ds) rest rest_is)
    ∙ ap (number_before (d ∷ ds)) rest_is ∙ number_ends (d ∷ ds) rest s

-- texts and names in quotes
closed_end : (q : ℕ) (rest : List ℕ) → EndsQuote q rest → closed q (q ∷ rest) ≡ Some ([], rest)
closed_end q [] e = let same = eq-eqb q q refl in rw same refl
closed_end q (c ∷ cs) e = let same = eq-eqb q q refl in let other : (c == q) ≡ false = e in
    rw (same, other) refl

closed_step : (q b : ℕ) (ds rest : List ℕ) (v : Bool) → (b == q) ≡ v
    → closed q (ds ++ (q ∷ rest)) ≡ Some (ds, rest)
    → closed q (cond v (b ∷ b ∷ ds) (b ∷ ds) ++ (q ∷ rest))
    ≡ Some (cond v (b ∷ b ∷ ds) (b ∷ ds), rest)
closed_step q b ds rest true h ih = closed_twice q b b (ds ++ (q ∷ rest)) h h
    ∙ ap (with_front (b ∷ b ∷ [])) ih
closed_step q b ds rest false h ih = closed_other q b (ds ++ (q ∷ rest)) h
    ∙ ap (with_front (b ∷ [])) ih

closed_doubled : (q : ℕ) (raw rest : List ℕ) → EndsQuote q rest
    → closed q (doubled q raw ++ (q ∷ rest)) ≡ Some (doubled q raw, rest)
closed_doubled q [] rest e = closed_end q rest e
closed_doubled q (b ∷ bs) rest e =
    closed_step q b (doubled q bs) rest (b == q) refl (closed_doubled q bs rest e)

closed_there : (q : ℕ) (bs rest : List ℕ) → IsDoubled q bs → EndsQuote q rest
    → closed q ((bs ++ (q ∷ [])) ++ rest) ≡ Some (bs, rest)
closed_there q bs rest h e =
    ap (closed q) (append_assoc bs (q ∷ []) rest ∙ ap (λ ys. ys ++ (q ∷ rest)) h.1)
    ∙ closed_doubled q h.0 rest e ∙ ap (λ ys. Some (ys, rest)) (sym h.1)

single_opens : (xs : List ℕ) → first_piece (39 ∷ xs) ≡ quoted_by text (closed 39 xs)
unfolding first_piece
single_opens xs = refl

double_opens : (xs : List ℕ) → first_piece (34 ∷ xs) ≡ quoted_by quoted (closed 34 xs)
unfolding first_piece
double_opens xs = refl

pub text_piece : (bs rest : List ℕ) → IsDoubled 39 bs → Stops rest
    → first_piece (in_quotes 39 bs ++ rest) ≡ Some (token (text bs), rest)
text_piece bs rest h s = single_opens ((bs ++ (39 ∷ [])) ++ rest)
    ∙ ap (quoted_by text) (closed_there 39 bs rest h (ends_single rest s))

pub quoted_piece : (w rest : List ℕ) → IsDoubled 34 w → Stops rest
    → first_piece (in_quotes 34 w ++ rest) ≡ Some (token (quoted w), rest)
quoted_piece w rest h s = double_opens ((w ++ (34 ∷ [])) ++ rest)
    ∙ ap (quoted_by quoted) (closed_there 34 w rest h (ends_double rest s))
