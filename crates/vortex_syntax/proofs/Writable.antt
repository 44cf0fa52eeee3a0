-- The tokens of a text can be written.
use Rattle.std.proofs.Common.{◌≡◌, ℕ, Bool, true, false, cond, ◌==◌, ◌&&◌, ◌||◌, List, [], ◌∷◌}
use Rattle.std.proofs.Common.{Option, Some, None, refl, ap, sym, subst, ◌∙◌}
use Rattle.std.specs.Prelude.{is_none}
use Rattle.std.specs.List.{list_all}
use Rattle.std.proofs.lemmas.Bool.{and_from, eqb-true, cond_both}
use Rattle.vortex_syntax.specs.declared.token.Sign.{Sign}
use Rattle.vortex_syntax.specs.declared.token.Sign.TheVariants as sign
use Rattle.vortex_syntax.specs.declared.pieces.Run.TheVariants.{Word, Line}
use Rattle.vortex_syntax.specs.Tokens.{Token, name, nullable, function, quoted, number, text, sign}
use Rattle.vortex_syntax.specs.Keywords.{keyword_of}
use Rattle.vortex_syntax.specs.Pieces.{Piece, gap, token, Cut, is_blank, begins_word, is_in, front}
use Rattle.vortex_syntax.specs.Pieces.{behind, name_before, keyword_or_name, word_before}
use Rattle.vortex_syntax.specs.Pieces.{number_before, begins_number, behind_number, front_number}
use Rattle.vortex_syntax.specs.Pieces.{with_front, closed, quoted_by, sign_of_two, sign_of_one}
use Rattle.vortex_syntax.specs.Pieces.{star_before, sign_of_three, sign_before, or_else}
use Rattle.vortex_syntax.specs.Pieces.{longest_sign, minus_or_comment}
use Rattle.vortex_syntax.specs.Pieces.{first_piece, behind_comment, gap_before, divide_or_comment}
use Rattle.vortex_syntax.specs.Lexing.{Lexes, none, gap_first, token_first}
use Rattle.vortex_syntax.specs.Writing.{doubled, is_word, is_bare, IsNumber, IsDoubled, IsWritable}
use Rattle.vortex_syntax.specs.Writing.{AllWritable, is_sized}
use Rattle.vortex_syntax.specs.Pieces.{is_sized_word, call_before, behind_sized, front_before}
use Rattle.vortex_syntax.specs.Pieces.{sized_or_word}
use Rattle.vortex_syntax.proofs.Runs.{word_begun, front_is}
use Rattle.vortex_syntax.proofs.SizedNames.{sized_is}
use Rattle.vortex_syntax.proofs.Numbers.{front_is_number}

word_is : (b : ℕ) (bs : List ℕ) → begins_word b ≡ true → is_word (front Word (b ∷ bs)) ≡ true
word_is b bs h =
    let here = word_begun b h in
    rw here (and_from (begins_word b) (list_all (is_in Word) (front Word bs)) h (front_is Word bs))

-- texts between quotes
abbrev Pair : Type 0
Pair = List ℕ × List ℕ

some_is : (x y : Pair) → Some x ≡ Some y → x ≡ y
some_is x y e = cc

abbrev Doubles : ℕ → Option Pair → Type 0
Doubles q o = (x : Pair) → o ≡ Some x → IsDoubled q x.0

ends_doubled : (q : ℕ) (bs : List ℕ) → Doubles q (Some ([], bs))
ends_doubled q bs x e = ([], ap (λ (p : Pair). p.0) (sym (some_is ([], bs) x e)))

twice_doubled : (q b c : ℕ) → (b == q) ≡ true → (c == q) ≡ true → (o : Option Pair) → Doubles q o
    → Doubles q (with_front (b ∷ c ∷ []) o)
twice_doubled q b c h k None f x e = absurd cc
twice_doubled q b c h k (Some y) f x e =
    let d = f y refl in
    let same : c ≡ b = eqb-true c q k ∙ sym (eqb-true b q h) in
    let step : doubled q (b ∷ d.0) ≡ b ∷ b ∷ doubled q d.0 = rw h refl in (
      b ∷ d.0,
      ap (λ (p : Pair). p.0) (sym (some_is (b ∷ c ∷ y.0, y.1) x e)) ∙ ap (λ v. b ∷ v ∷ y.0) same
          ∙ ap (λ ys. b ∷ b ∷ ys) d.1 ∙ sym step,
    )

other_doubled : (q b : ℕ) → (b == q) ≡ false → (o : Option Pair) → Doubles q o
    → Doubles q (with_front (b ∷ []) o)
other_doubled q b h None f x e = absurd cc
other_doubled q b h (Some y) f x e =
    let d = f y refl in
    let step : doubled q (b ∷ d.0) ≡ b ∷ doubled q d.0 = rw h refl in (
      b ∷ d.0,
      ap (λ (p : Pair). p.0) (sym (some_is (b ∷ y.0, y.1) x e)) ∙ ap (λ ys. b ∷ ys) d.1
          ∙ sym step,
    )

none_doubled : (q : ℕ) → Doubles q None
none_doubled q x e = absurd cc

closed_is : (q : ℕ) (bs : List ℕ) → Doubles q (closed q bs)
closed_is q [] = none_doubled q
closed_is q (b ∷ []) = cond_both (b == q) (Some ([], [])) None (Doubles q) (λ h. ends_doubled q [])
    (λ h. none_doubled q)
closed_is q (b ∷ c ∷ bs) =
    let twice = closed_is q bs in
    let other = closed_is q (c ∷ bs) in
    cond_both (b == q) (cond (c == q) (with_front (b ∷ c ∷ []) (closed q bs)) (Some ([], c ∷ bs)))
    (with_front (b ∷ []) (closed q (c ∷ bs))) (Doubles q)
    (λ h. cond_both (c == q) (with_front (b ∷ c ∷ []) (closed q bs)) (Some ([], c ∷ bs)) (Doubles q)
    (λ k. twice_doubled q b c h k (closed q bs) twice) (λ k. ends_doubled q (c ∷ bs)))
    (λ h. other_doubled q b h (closed q (c ∷ bs)) other)

-- pieces
abbrev piece_of : Cut → Piece
piece_of None = gap
piece_of (Some x) = x.0

token_is : (t u : Token) → token t ≡ token u → t ≡ u
token_is t u e = cc

bare_named : (w : List ℕ) → is_bare w ≡ true → (is_bare w || is_sized w) ≡ true
bare_named w h = ap (λ b. b || is_sized w) h

sized_named : (w : List ℕ) → is_sized w ≡ true → (is_bare w || is_sized w) ≡ true
sized_named w h = by (is_bare w)
  where
    by : (b : Bool) → (b || is_sized w) ≡ true
    by true = refl
    by false = h

module _ (t : Token) (rest : List ℕ) where
  abbrev Says : Cut → Type 0
  Says c = c ≡ Some (token t, rest) → IsWritable t

  none_says : Says None
  none_says e = absurd cc

  gap_says : (xs : List ℕ) → Says (Some (gap, xs))
  gap_says xs e = absurd (let k : gap ≡ token t = ap piece_of e in cc)

  token_says : (u : Token) (xs : List ℕ) → IsWritable u → Says (Some (token u, xs))
  token_says u xs h e = subst IsWritable (token_is u t (ap piece_of e)) h

  minus_says : (bs : List ℕ) → Says (minus_or_comment bs)
  minus_says [] = token_says (sign sign.Minus) [] tt
  minus_says (c ∷ cs) =
      cond_both (c == 45) (Some (gap, behind Line cs)) (Some (token (sign sign.Minus), c ∷ cs)) Says
      (λ h. gap_says (behind Line cs)) (λ h. token_says (sign sign.Minus) (c ∷ cs) tt)

  comment_says : (o : Option (List ℕ)) → Says (gap_before o)
  comment_says None = none_says
  comment_says (Some xs) = gap_says xs

  divide_says : (bs : List ℕ) → Says (divide_or_comment bs)
  divide_says [] = token_says (sign sign.Divide) [] tt
  divide_says (c ∷ cs) =
      cond_both (c == 42) (gap_before (behind_comment 0 cs))
      (Some (token (sign sign.Divide), c ∷ cs)) Says
      (λ h. comment_says (behind_comment 0 cs))
      (λ h. token_says (sign sign.Divide) (c ∷ cs) tt)

  call_says : (w xs : List ℕ) → is_bare w ≡ true → Says (Some (call_before w xs))
  call_says w xs h =
      cond_both (is_sized_word w) (token (name w), 40 ∷ xs) (token (function w), xs)
      (λ p. Says (Some p)) (λ k. token_says (name w) (40 ∷ xs) (bare_named w h))
      (λ k. token_says (function w) xs (h, k))

  name_says : (w xs : List ℕ) → is_bare w ≡ true → Says (Some (name_before w xs))
  name_says w [] h = token_says (name w) [] (bare_named w h)
  name_says w (b ∷ bs) h =
      cond_both (b == 40) (call_before w bs) (token (name w), b ∷ bs) (λ p. Says (Some p))
      (λ k. call_says w bs h) (λ k. token_says (name w) (b ∷ bs) (bare_named w h))

  keyword_says : (w xs : List ℕ) (o : Option Sign) → is_word w ≡ true → keyword_of w ≡ o
      → Says (Some (keyword_or_name w o xs))
  keyword_says w xs None h e =
      name_says w xs (and_from (is_word w) (is_none (keyword_of w)) h (ap is_none e))
  keyword_says w xs (Some s) h e = token_says (sign s) xs tt

  word_says : (w xs : List ℕ) → is_word w ≡ true → Says (Some (word_before w xs))
  word_says w [] h = keyword_says w [] (keyword_of w) h refl
  word_says w (b ∷ bs) h =
      cond_both (b == 63) (token (nullable w), bs)
      (keyword_or_name w (keyword_of w) (b ∷ bs)) (λ p. Says (Some p))
      (λ k. token_says (nullable w) bs h) (λ k. keyword_says w (b ∷ bs) (keyword_of w) h refl)

  sized_says : (xs : List ℕ) (o : Option (List ℕ)) → is_word (front Word xs) ≡ true
      → behind_sized xs ≡ o → Says (Some (sized_or_word xs o))
  sized_says xs None h e = word_says (front Word xs) (behind Word xs) h
  sized_says xs (Some ys) h e =
      token_says (name (front_before xs ys)) ys
      (sized_named (front_before xs ys) (sized_is xs ys e))

  number_says : (ds xs : List ℕ) → IsNumber ds → Says (number_before ds xs)
  number_says ds [] h = token_says (number ds) [] h
  number_says ds (b ∷ bs) h =
      cond_both (is_in Word b) None (Some (token (number ds), b ∷ bs)) Says (λ k. none_says)
      (λ k. token_says (number ds) (b ∷ bs) h)

  quoted_says : (make : List ℕ → Token) (o : Option Pair)
      → ((x : Pair) → o ≡ Some x → IsWritable (make x.0)) → Says (quoted_by make o)
  quoted_says make None f = none_says
  quoted_says make (Some x) f = token_says (make x.0) x.1 (f x refl)

  sign_says : (xs : List ℕ) (o : Option Sign) → Says (sign_before xs o)
  sign_says xs None = none_says
  sign_says xs (Some s) = token_says (sign s) xs tt

  or_says : (x y : Cut) → Says x → Says y → Says (or_else x y)
  or_says None y f g = g
  or_says (Some x) y f g = f

  star_says : (xs : List ℕ) → Says (star_before xs)
  star_says [] = none_says
  star_says (b ∷ bs) =
      cond_both (b == 42) (Some (token (sign sign.NotMatchAnyCase), bs)) None Says
      (λ k. token_says (sign sign.NotMatchAnyCase) bs tt) (λ k. none_says)

  three_says : (b c : ℕ) (xs : List ℕ) → Says (sign_of_three b c xs)
  three_says b c xs = cond_both ((b == 33) && (c == 126)) (star_before xs) None Says
      (λ k. star_says xs) (λ k. none_says)

  longest_says : (b : ℕ) (xs : List ℕ) → Says (longest_sign b xs)
  longest_says b [] = sign_says [] (sign_of_one b)
  longest_says b (c ∷ cs) =
      let two = sign_before cs (sign_of_two b c) in
      let one = sign_before (c ∷ cs) (sign_of_one b) in
      or_says (sign_of_three b c cs) (or_else two one) (three_says b c cs)
      (or_says two one (sign_says cs (sign_of_two b c)) (sign_says (c ∷ cs) (sign_of_one b)))

  piece_says : (bs : List ℕ) → Says (first_piece bs)
  unfolding first_piece
  piece_says [] = none_says
  piece_says (b ∷ bs) =
      let marks = longest_sign b bs in
      let names = cond (b == 34) (quoted_by quoted (closed 34 bs)) marks in
      let texts = cond (b == 39) (quoted_by text (closed 39 bs)) names in
      let numbers =
      cond (begins_number (b ∷ bs))
      (number_before (front_number (b ∷ bs)) (behind_number (b ∷ bs))) texts in
      let words = cond (begins_word b)
      (Some (sized_or_word (b ∷ bs) (behind_sized (b ∷ bs)))) numbers in
      let divide = cond (b == 47) (divide_or_comment bs) words in
      let minus = cond (b == 45) (minus_or_comment bs) divide in
      cond_both (is_blank b) (Some (gap, bs)) minus Says (λ h. gap_says bs)
      (λ h. cond_both (b == 45) (minus_or_comment bs) divide Says (λ h. minus_says bs)
      (λ h. cond_both (b == 47) (divide_or_comment bs) words Says (λ h. divide_says bs)
      (λ h. cond_both (begins_word b)
      (Some (sized_or_word (b ∷ bs) (behind_sized (b ∷ bs)))) numbers Says
      (λ h. sized_says (b ∷ bs) (behind_sized (b ∷ bs)) (word_is b bs h) refl)
      (λ h. cond_both (begins_number (b ∷ bs))
      (number_before (front_number (b ∷ bs)) (behind_number (b ∷ bs))) texts Says
      (λ h. number_says (front_number (b ∷ bs)) (behind_number (b ∷ bs))
      (front_is_number (b ∷ bs) h))
      (λ h. cond_both (b == 39) (quoted_by text (closed 39 bs)) names Says
      (λ h. quoted_says text (closed 39 bs) (closed_is 39 bs))
      (λ h. cond_both (b == 34) (quoted_by quoted (closed 34 bs)) marks Says
      (λ h. quoted_says quoted (closed 34 bs) (closed_is 34 bs)) (λ h. longest_says b bs)))))))

pub all_writable : {bs : List ℕ} {ts : List Token} → Lexes bs ts → AllWritable ts
all_writable none = tt
all_writable (gap_first e l) = all_writable l
all_writable (token_first {bs = bs} {rest = rest} {t = t} e l) =
    (piece_says t rest bs e, all_writable l)
