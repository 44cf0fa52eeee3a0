-- Words split off one by one.
use Rattle.std.proofs.Common.{◌≡◌, ◌≢◌, ◌==◌, ℕ, suc, ◌<◌, ◌≤◌, Bool, true, false, Option, Some}
use Rattle.std.proofs.Common.{None, List, [], ◌∷◌, ◌++◌, map, length, refl, sym, ap, subst, ◌∙◌}
use Rattle.std.proofs.Common.{arith, tests, length-append, append_assoc, option_map, if◌then◌else◌}
use Rattle.std.proofs.lemmas.List.{append-nil, map-append}
use Rattle.rowfn_lines.specs.Lines.{Word, plain, quoted, after_spaces, with_word, words_of, in_word}
use Rattle.rowfn_lines.specs.Lines.{in_quotes, after_quotes, BeginsWord, BeginsPlain, Lacks}

differs : (b c : ℕ) → b ≢ c → (b == c) ≡ false
differs b c h = grind (arith, tests)

pub spaces_skipped : (bs : List ℕ) → words_of (after_spaces bs) ≡ words_of bs
spaces_skipped [] = refl
spaces_skipped (b ∷ bs) = by (b == 32) refl (spaces_skipped bs)
  where
    by : (c : Bool) → (b == 32) ≡ c → words_of (after_spaces bs) ≡ words_of bs
        → words_of (if c then after_spaces bs else b ∷ bs) ≡ words_of (b ∷ bs)
    by true e h =
        h
        ∙ sym
        (ap
        (λ c.
        if c then words_of bs else
        (if b == 34 then in_quotes [] bs else in_word (b ∷ []) bs))
        e)
    by false e h = refl

pub skipped_length : (bs : List ℕ) → length (after_spaces bs) ≤ length bs
skipped_length [] = omega arith
skipped_length (b ∷ bs) = by (b == 32) (skipped_length bs)
  where
    by : (c : Bool) → length (after_spaces bs) ≤ length bs
        → length (if c then after_spaces bs else b ∷ bs) ≤ length (b ∷ bs)
    by true h = omega (arith, h)
    by false h = omega arith

pub one_space : (bs rest : List ℕ) → bs ≡ 32 ∷ rest → after_spaces bs ≡ after_spaces rest
one_space bs rest e = ap after_spaces e

pub no_space : (bs : List ℕ) → ((rest : List ℕ) → bs ≢ 32 ∷ rest) → after_spaces bs ≡ bs
no_space [] h = refl
no_space (b ∷ bs) h =
    ap (λ c. if c then after_spaces bs else b ∷ bs) (differs b 32 (λ e. h bs (ap (λ c. c ∷ bs) e)))

-- what is left after the spaces begins with a word, unless it is empty
pub begins_word : (bs : List ℕ) → after_spaces bs ≢ [] → BeginsWord (after_spaces bs)
begins_word [] = λ h. absurd (h refl)
begins_word (b ∷ bs) = by (b == 32) refl (begins_word bs)
  where
    by : (c : Bool) → (b == 32) ≡ c → (after_spaces bs ≢ [] → BeginsWord (after_spaces bs))
        → (if c then after_spaces bs else b ∷ bs) ≢ []
        → BeginsWord (if c then after_spaces bs else b ∷ bs)
    by true e h k = h k
    by false e h k = λ same. grind (arith, tests)

lacks_tail : (c x : ℕ) (xs : List ℕ) → Lacks c (x ∷ xs) → Lacks c xs
lacks_tail c x xs h i lt = h (suc i) (omega arith)

lacks_head : (c x : ℕ) (xs : List ℕ) → Lacks c (x ∷ xs) → (x == c) ≡ false
lacks_head c x xs h = differs x c (h 0 (omega arith))

pub begins_plain : (bs : List ℕ) → BeginsWord bs → ((rest : List ℕ) → bs ≢ 34 ∷ rest)
    → BeginsPlain bs
begins_plain [] h k = h
begins_plain (b ∷ bs) h k = (h, λ e. k bs (ap (λ c. c ∷ bs) e))

module _ (rest : List ℕ) where
  word_ends : (w xs : List ℕ) → Lacks 32 xs
      → in_word w (xs ++ 32 ∷ rest) ≡ with_word (plain (w ++ xs)) (words_of rest)
  word_ends w [] h = ap (λ v. with_word (plain v) (words_of rest)) (sym (append-nil w))
  word_ends w (x ∷ xs) h =
      ap
      (λ c.
      if c then with_word (plain w) (words_of (xs ++ 32 ∷ rest)) else in_word (w ++ x ∷ [])
      (xs ++ 32 ∷ rest))
      (lacks_head 32 x xs h)
      ∙ word_ends (w ++ x ∷ []) xs (lacks_tail 32 x xs h)
      ∙ ap (λ v. with_word (plain v) (words_of rest)) (append_assoc w (x ∷ []) xs)

  quotes_end : (w xs : List ℕ) → Lacks 34 xs
      → in_quotes w (xs ++ 34 ∷ rest) ≡ after_quotes (w ++ xs) rest
  quotes_end w [] h = ap (λ v. after_quotes v rest) (sym (append-nil w))
  quotes_end w (x ∷ xs) h =
      ap
      (λ c.
      if c then after_quotes w (xs ++ 34 ∷ rest) else in_quotes (w ++ x ∷ []) (xs ++ 34 ∷ rest))
      (lacks_head 34 x xs h)
      ∙ quotes_end (w ++ x ∷ []) xs (lacks_tail 34 x xs h)
      ∙ ap (λ v. after_quotes v rest) (append_assoc w (x ∷ []) xs)

last_word : (w xs : List ℕ) → Lacks 32 xs → in_word w xs ≡ Some (plain (w ++ xs) ∷ [])
last_word w [] h = ap (λ v. Some (plain v ∷ [])) (sym (append-nil w))
last_word w (x ∷ xs) h =
    ap (λ c. if c then with_word (plain w) (words_of xs) else in_word (w ++ x ∷ []) xs)
    (lacks_head 32 x xs h)
    ∙ last_word (w ++ x ∷ []) xs (lacks_tail 32 x xs h)
    ∙ ap (λ v. Some (plain v ∷ [])) (append_assoc w (x ∷ []) xs)

pub open_quotes : (w xs : List ℕ) → Lacks 34 xs → in_quotes w xs ≡ None
open_quotes w [] h = refl
open_quotes w (x ∷ xs) h =
    ap (λ c. if c then after_quotes w xs else in_quotes (w ++ x ∷ []) xs) (lacks_head 34 x xs h)
    ∙ open_quotes (w ++ x ∷ []) xs (lacks_tail 34 x xs h)

plain_begins : (b : ℕ) (bs : List ℕ) → b ≢ 32 → b ≢ 34 → words_of (b ∷ bs) ≡ in_word (b ∷ []) bs
plain_begins b bs h k =
    ap (λ c. if c then words_of bs else (if b == 34 then in_quotes [] bs else in_word (b ∷ []) bs))
    (differs b 32 h)
    ∙ ap (λ c. if c then in_quotes [] bs else in_word (b ∷ []) bs) (differs b 34 k)

-- a word up to a space
pub plain_split : (text word rest : List ℕ) → BeginsPlain text → text ≡ word ++ 32 ∷ rest
    → Lacks 32 word → words_of text ≡ with_word (plain word) (words_of rest)
plain_split [] word rest h e l = absurd h
plain_split (b ∷ bs) [] rest h e l = absurd (h.0 cc)
plain_split (b ∷ bs) (x ∷ xs) rest h e l =
    let same : b ≡ x = cc in
    let tail : bs ≡ xs ++ 32 ∷ rest = cc in
    plain_begins b bs h.0 h.1 ∙ (λ i. in_word (same i ∷ []) (tail i))
    ∙ word_ends rest (x ∷ []) xs (lacks_tail 32 x xs l)

-- a word up to the end
pub plain_last : (text : List ℕ) → BeginsPlain text → Lacks 32 text
    → words_of text ≡ with_word (plain text) (words_of [])
plain_last [] h l = absurd h
plain_last (b ∷ bs) h l = plain_begins b bs h.0 h.1 ∙ last_word (b ∷ []) bs (lacks_tail 32 b bs l)

-- quoted text, and what follows the quote
pub quoted_split : (text word rest : List ℕ) → text ≡ word ++ 34 ∷ rest → Lacks 34 word
    → in_quotes [] text ≡ after_quotes word rest
quoted_split text word rest e l = ap (in_quotes []) e ∙ quotes_end rest [] word l

pub quotes_begin : (text rest : List ℕ) → text ≡ 34 ∷ rest → words_of text ≡ in_quotes [] rest
quotes_begin text rest e = ap words_of e

pub unclosed_word : (w bs : List ℕ) → 0 < length bs → ((rest : List ℕ) → bs ≢ 32 ∷ rest)
    → after_quotes w bs ≡ None
unclosed_word w [] some h = absurd (omega arith)
unclosed_word w (c ∷ cs) some h =
    ap (λ d. if d then with_word (quoted w) (words_of cs) else None)
    (differs c 32 (λ e. h cs (ap (λ x. x ∷ cs) e)))

-- one more word
pub word_more : (before : List Word) (w : Word) (rest : Option (List Word))
    → option_map (λ ws. before ++ ws) (with_word w rest)
    ≡ option_map (λ ws. (before ++ w ∷ []) ++ ws) rest
word_more before w None = refl
word_more before w (Some ws) = ap Some (sym (append_assoc before (w ∷ []) ws))

pub empty_by_length : (bs : List ℕ) → length bs ≡ 0 → bs ≡ []
empty_by_length [] h = refl
empty_by_length (b ∷ bs) h = absurd (omega (arith, h))

pub shorter_after : (text word rest : List ℕ) → text ≡ word ++ 34 ∷ rest → length rest < length text
shorter_after text word rest e = omega (arith, ap length e, length-append word (34 ∷ rest))

after_twice : (bs : List ℕ) → after_spaces (after_spaces bs) ≡ after_spaces bs
after_twice [] = refl
after_twice (b ∷ bs) = by (b == 32) refl (after_twice bs)
  where
    by : (c : Bool) → (b == 32) ≡ c → after_spaces (after_spaces bs) ≡ after_spaces bs
        → after_spaces (if c then after_spaces bs else b ∷ bs)
        ≡ (if c then after_spaces bs else b ∷ bs)
    by true e h = h
    by false e h = ap (λ c. if c then after_spaces bs else b ∷ bs) e

module _ (text rest : List ℕ) (e : rest ≡ after_spaces text) where
  pub no_more_spaces : after_spaces rest ≡ rest
  no_more_spaces = ap after_spaces e ∙ after_twice text ∙ sym e

  pub same_words : words_of rest ≡ words_of text
  same_words = ap words_of e ∙ spaces_skipped text

  pub no_longer : length rest ≤ length text
  no_longer = omega (arith, ap length e, skipped_length text)

pub begins_here : (rest : List ℕ) → after_spaces rest ≡ rest → 0 < length rest → BeginsWord rest
begins_here rest e some =
    subst BeginsWord e
    (begins_word rest (λ none. absurd (omega (arith, some, ap length (sym e ∙ none)))))

pub read_nothing : {A : Type 0} (f : A → Word) (xs : List A) → xs ≡ [] → (o : Option (List Word))
    → option_map (λ ws. map f xs ++ ws) o ≡ o
read_nothing f xs e None = refl
read_nothing f xs e (Some ws) = ap (λ ys. Some (map f ys ++ ws)) e

-- the words so far, and those to come
pub words_more : {A : Type 0} (f : A → Word) (xs : List A) (x : A)
    (before after : Option (List Word)) (all : Option (List Word))
    → before ≡ with_word (f x) after → option_map (λ ws. map f xs ++ ws) before ≡ all
    → option_map (λ ws. map f (xs ++ x ∷ []) ++ ws) after ≡ all
words_more f xs x before after all e h =
    ap (λ (ys : List Word). option_map (λ ws. ys ++ ws) after) (map-append f xs (x ∷ []))
    ∙ sym (word_more (map f xs) (f x) after)
    ∙ ap (option_map (λ ws. map f xs ++ ws)) (sym e)
    ∙ h
