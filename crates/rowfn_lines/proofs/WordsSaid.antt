-- The words of a line are those that it means.
use Rattle.std.proofs.Common.{◌≡◌, ◌≢◌, ◌==◌, ℕ, zero, suc, Bool, true, false, Option, Some, None}
use Rattle.std.proofs.Common.{List, [], ◌∷◌, ◌++◌, refl, sym, ap, subst, ◌∙◌, arith, tests}
use Rattle.std.proofs.Common.{append_assoc, if◌then◌else◌}
use Rattle.std.proofs.lemmas.List.{append-nil}
use Rattle.rowfn_lines.specs.Lines.{Word, plain, quoted, with_word, words_of, in_word, in_quotes}
use Rattle.rowfn_lines.specs.Lines.{after_quotes, BeginsPlain, Lacks, AreSpaces, Spells}
use Rattle.rowfn_lines.specs.Lines.{FollowsWord, SaysWords, AreWordsSaid}
use Rattle.rowfn_lines.proofs.Words.{plain_split, plain_last, quoted_split}

-- from the bytes to their words

space_more : (b : ℕ) (line : List ℕ) (ws : List Word) → b ≡ 32 → SaysWords line ws
    → SaysWords (b ∷ line) ws
space_more b line [] e h = (e, h)
space_more b line (w ∷ ws) e h =
    (b ∷ h.0, h.1, h.2, ap (λ (l : List ℕ). b ∷ l) h.3, (e, h.4), h.5, h.6, h.7)

lacks_none : (c : ℕ) → Lacks c []
lacks_none c i lt = absurd (omega arith)

lacks_more : (c b : ℕ) (xs : List ℕ) → b ≢ c → Lacks c xs → Lacks c (b ∷ xs)
lacks_more c b xs d h zero lt = d
lacks_more c b xs d h (suc i) lt = h i (omega arith)

is_byte : (b c : ℕ) → (b == c) ≡ true → b ≡ c
is_byte b c e = grind (arith, tests)

is_no_byte : (b c : ℕ) → (b == c) ≡ false → b ≢ c
is_no_byte b c e = λ same. grind (arith, tests)

with_word_some : (w : Word) (o : Option (List Word)) (ws : List Word) → with_word w o ≡ Some ws
    → (more : List Word) × (o ≡ Some more) × (ws ≡ w ∷ more)
with_word_some w None ws e = cc
with_word_some w (Some more) ws e = (more, refl, cc)

-- what follows a word that is not yet at its end
abbrev PlainLeft : List ℕ → List ℕ → List Word → Type 0
PlainLeft w line ws =
    (xs rest : List ℕ) × (more : List Word) × (line ≡ xs ++ rest) × Lacks 32 xs × FollowsWord rest
    × (ws ≡ plain (w ++ xs) ∷ more) × SaysWords rest more

abbrev QuotedLeft : List ℕ → List ℕ → List Word → Type 0
QuotedLeft w line ws =
    (xs rest : List ℕ) × (more : List Word) × (line ≡ xs ++ 34 ∷ rest) × Lacks 34 xs
    × FollowsWord rest × (ws ≡ quoted (w ++ xs) ∷ more) × SaysWords rest more

abbrev Closed : List ℕ → List ℕ → List Word → Type 0
Closed w line ws =
    (more : List Word) × FollowsWord line × (ws ≡ quoted w ∷ more) × SaysWords line more

says_by : (b : ℕ) (bs : List ℕ) (ws : List Word) (c d : Bool) → (b == 32) ≡ c → (b == 34) ≡ d
    → (words_of bs ≡ Some ws → SaysWords bs ws) → (in_quotes [] bs ≡ Some ws → QuotedLeft [] bs ws)
    → (in_word (b ∷ []) bs ≡ Some ws → PlainLeft (b ∷ []) bs ws)
    → (if c then words_of bs else (if d then in_quotes [] bs else in_word (b ∷ []) bs)) ≡ Some ws
    → SaysWords (b ∷ bs) ws
says_by b bs ws true d g k s q p e = space_more b bs ws (is_byte b 32 g) (s e)
says_by b bs ws false true g k s q p e =
    let h = q e in
    let here : b ∷ bs ≡ (34 ∷ h.0 ++ 34 ∷ []) ++ h.1 =
    (λ i. is_byte b 34 k i ∷ h.3 i)
    ∙ ap (λ (l : List ℕ). 34 ∷ l) (sym (append_assoc h.0 (34 ∷ []) h.1)) in
    subst (SaysWords (b ∷ bs)) (sym h.6)
    ([], 34 ∷ h.0 ++ 34 ∷ [], h.1, here, tt, (refl, h.4), h.5, h.7)
says_by b bs ws false false g k s q p e =
    let h = p e in
    let first = is_no_byte b 32 g in
    subst (SaysWords (b ∷ bs)) (sym h.6) (
      [],
      b ∷ h.0,
      h.1,
      ap (λ (l : List ℕ). b ∷ l) h.3,
      tt,
      (refl, (first, is_no_byte b 34 k), lacks_more 32 b h.0 first h.4),
      h.5,
      h.7,
    )

plain_by : (w : List ℕ) (b : ℕ) (bs : List ℕ) (ws : List Word) (c : Bool) → (b == 32) ≡ c
    → ((more : List Word) → words_of bs ≡ Some more → SaysWords bs more)
    → (in_word (w ++ b ∷ []) bs ≡ Some ws → PlainLeft (w ++ b ∷ []) bs ws)
    → (if c then with_word (plain w) (words_of bs) else in_word (w ++ b ∷ []) bs) ≡ Some ws
    → PlainLeft w (b ∷ bs) ws
plain_by w b bs ws true g s p e =
    let h = with_word_some (plain w) (words_of bs) ws e in
    let space = is_byte b 32 g in (
      [],
      b ∷ bs,
      h.0,
      refl,
      lacks_none 32,
      space,
      h.2 ∙ ap (λ v. plain v ∷ h.0) (sym (append-nil w)),
      space_more b bs h.0 space (s h.0 h.1),
    )
plain_by w b bs ws false g s p e =
    let h = p e in (
      b ∷ h.0,
      h.1,
      h.2,
      ap (λ (l : List ℕ). b ∷ l) h.3,
      lacks_more 32 b h.0 (is_no_byte b 32 g) h.4,
      h.5,
      h.6 ∙ ap (λ v. plain v ∷ h.2) (append_assoc w (b ∷ []) h.0),
      h.7,
    )

quoted_by : (w : List ℕ) (b : ℕ) (bs : List ℕ) (ws : List Word) (c : Bool) → (b == 34) ≡ c
    → (after_quotes w bs ≡ Some ws → Closed w bs ws)
    → (in_quotes (w ++ b ∷ []) bs ≡ Some ws → QuotedLeft (w ++ b ∷ []) bs ws)
    → (if c then after_quotes w bs else in_quotes (w ++ b ∷ []) bs) ≡ Some ws
    → QuotedLeft w (b ∷ bs) ws
quoted_by w b bs ws true g a q e =
    let h = a e in (
      [],
      bs,
      h.0,
      ap (λ x. x ∷ bs) (is_byte b 34 g),
      lacks_none 34,
      h.1,
      h.2 ∙ ap (λ v. quoted v ∷ h.0) (sym (append-nil w)),
      h.3,
    )
quoted_by w b bs ws false g a q e =
    let h = q e in (
      b ∷ h.0,
      h.1,
      h.2,
      ap (λ (l : List ℕ). b ∷ l) h.3,
      lacks_more 34 b h.0 (is_no_byte b 34 g) h.4,
      h.5,
      h.6 ∙ ap (λ v. quoted v ∷ h.2) (append_assoc w (b ∷ []) h.0),
      h.7,
    )

closed_by : (w : List ℕ) (b : ℕ) (bs : List ℕ) (ws : List Word) (c : Bool) → (b == 32) ≡ c
    → ((more : List Word) → words_of bs ≡ Some more → SaysWords bs more)
    → (if c then with_word (quoted w) (words_of bs) else None) ≡ Some ws → Closed w (b ∷ bs) ws
closed_by w b bs ws true g s e =
    let h = with_word_some (quoted w) (words_of bs) ws e in
    let space = is_byte b 32 g in
    (h.0, space, h.2, space_more b bs h.0 space (s h.0 h.1))
closed_by w b bs ws false g s e = cc

option_items : {xs ys : List Word} → Some xs ≡ Some ys → xs ≡ ys
option_items e = cc

nothing_said : (ws : List Word) → Some [] ≡ Some ws → SaysWords [] ws
nothing_said [] e = tt
nothing_said (w ∷ ws) e = cc

mutual
  says : (line : List ℕ) (ws : List Word) → words_of line ≡ Some ws → SaysWords line ws
  says [] ws e = nothing_said ws e
  says (b ∷ bs) ws e =
      says_by b bs ws (b == 32) (b == 34) refl refl (says bs ws) (says_quoted [] bs ws)
      (says_plain (b ∷ []) bs ws) e

  says_plain : (w line : List ℕ) (ws : List Word) → in_word w line ≡ Some ws → PlainLeft w line ws
  says_plain w [] ws e = (
    [],
    [],
    [],
    refl,
    lacks_none 32,
    tt,
    sym (option_items e) ∙ ap (λ v. plain v ∷ []) (sym (append-nil w)),
    tt,
  )
  says_plain w (b ∷ bs) ws e =
      plain_by w b bs ws (b == 32) refl (says bs) (says_plain (w ++ b ∷ []) bs ws) e

  says_quoted : (w line : List ℕ) (ws : List Word) → in_quotes w line ≡ Some ws
      → QuotedLeft w line ws
  says_quoted w [] ws e = cc
  says_quoted w (b ∷ bs) ws e =
      quoted_by w b bs ws (b == 34) refl (says_closed w bs ws) (says_quoted (w ++ b ∷ []) bs ws) e

  says_closed : (w line : List ℕ) (ws : List Word) → after_quotes w line ≡ Some ws
      → Closed w line ws
  says_closed w [] ws e = ([], tt, sym (option_items e), tt)
  says_closed w (b ∷ bs) ws e = closed_by w b bs ws (b == 32) refl (says bs) e

-- and back

spaces_say_none : (line : List ℕ) → AreSpaces line → words_of line ≡ Some []
spaces_say_none [] h = refl
spaces_say_none (b ∷ bs) h = ap (λ x. words_of (x ∷ bs)) h.0 ∙ spaces_say_none bs h.1

spaces_before : (xs rest : List ℕ) → AreSpaces xs → words_of (xs ++ rest) ≡ words_of rest
spaces_before [] rest h = refl
spaces_before (b ∷ bs) rest h = ap (λ x. words_of (x ∷ bs ++ rest)) h.0 ∙ spaces_before bs rest h.1

begins_longer : (w rest : List ℕ) → BeginsPlain w → BeginsPlain (w ++ rest)
begins_longer [] rest h = absurd h
begins_longer (b ∷ bs) rest h = h

-- the rest after its space
after_space : (c : ℕ) (rest : List ℕ) (ws : List Word) → c ≡ 32 → words_of (c ∷ rest) ≡ Some ws
    → words_of rest ≡ Some ws
after_space c rest ws e h = sym (ap (λ x. words_of (x ∷ rest)) e) ∙ h

plain_said : (w rest : List ℕ) (ws : List Word) → BeginsPlain w → Lacks 32 w → FollowsWord rest
    → words_of rest ≡ Some ws → words_of (w ++ rest) ≡ Some (plain w ∷ ws)
plain_said w [] ws b l f h =
    ap words_of (append-nil w) ∙ plain_last w b l ∙ ap (with_word (plain w)) h
plain_said w (c ∷ rest) ws b l f h =
    plain_split (w ++ c ∷ rest) w rest (begins_longer w (c ∷ rest) b) (ap (λ x. w ++ x ∷ rest) f) l
    ∙ ap (with_word (plain w)) (after_space c rest ws f h)

closed_said : (w rest : List ℕ) (ws : List Word) → FollowsWord rest → words_of rest ≡ Some ws
    → after_quotes w rest ≡ Some (quoted w ∷ ws)
closed_said w [] ws f h = ap (with_word (quoted w)) h
closed_said w (c ∷ rest) ws f h =
    ap (λ x. after_quotes w (x ∷ rest)) f ∙ ap (with_word (quoted w)) (after_space c rest ws f h)

word_said : (w : Word) (spelling rest : List ℕ) (ws : List Word) → Spells w spelling
    → FollowsWord rest → words_of rest ≡ Some ws → words_of (spelling ++ rest) ≡ Some (w ∷ ws)
word_said (plain w) spelling rest ws s f h =
    ap (λ x. words_of (x ++ rest)) s.0 ∙ plain_said w rest ws s.1 s.2 f h
word_said (quoted w) spelling rest ws s f h =
    ap (λ x. words_of (x ++ rest)) s.0
    ∙ quoted_split ((w ++ 34 ∷ []) ++ rest) w rest (append_assoc w (34 ∷ []) rest) s.1
    ∙ closed_said w rest ws f h

said : (ws : List Word) (line : List ℕ) → SaysWords line ws → words_of line ≡ Some ws
said [] line h = spaces_say_none line h
said (w ∷ ws) line h =
    ap words_of h.3 ∙ spaces_before h.0 (h.1 ++ h.2) h.4
    ∙ word_said w h.1 h.2 ws h.5 h.6 (said ws h.2 h.7)

pub are_words_said : AreWordsSaid
are_words_said line ws = (says line ws, said ws line)
