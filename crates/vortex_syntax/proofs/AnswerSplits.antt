-- A list of answers is read answer by answer.
use Rattle.std.proofs.Common.{◌≡◌, ℕ, ◌+◌, ◌-◌, ◌==◌, ◌&&◌, Bool, true, false, cond, List, [], ◌∷◌}
use Rattle.std.proofs.Common.{◌++◌, length, map, take, drop, Option, Some, None, option_map, refl}
use Rattle.std.proofs.Common.{ap, sym, ◌∙◌, append_assoc, arith}
use Rattle.std.specs.List.{onto_first}
use Rattle.std.proofs.lemmas.List.{take_rest, drop-drop}
use Rattle.vortex_syntax.specs.declared.error.SyntaxError.{SyntaxError}
use Rattle.vortex_syntax.specs.declared.error.SyntaxError.TheVariants.{OutOfMemory}
use Rattle.vortex_syntax.specs.declared.token.Sign.TheVariants as sign
use Rattle.vortex_syntax.specs.Errors.{UnlessMemory}
use Rattle.vortex_syntax.specs.Tokens.{Token, sign}
use Rattle.vortex_syntax.specs.Lexing.{Lexes}
use Rattle.vortex_syntax.specs.Nesting.{nests}
use Rattle.vortex_syntax.specs.AnswerLists.{Answer, SpellsAnswers, one, more, ReadsAnswers, Told}
use Rattle.vortex_syntax.specs.AnswerLists.{told}
use Rattle.vortex_syntax.specs.AnswerParts.{is_comma, depth_behind, parts_from, answer_parts}
use Rattle.vortex_syntax.specs.AnswerParts.{answer_of, with_first, answers_of, all_answers}
use Rattle.vortex_syntax.proofs.Lexed.{one_list}
use Rattle.vortex_syntax.proofs.AnswerCommas.{whole_part, part_before, answer_stays}
use Rattle.vortex_syntax.proofs.AnswerNames.{answer_found, answer_read}

-- a list that is read is spelled by its tokens
pub data Parts : List Token → List (List Token) → Type 0 where
  whole : {ts : List Token} → Parts ts (ts ∷ [])
  first : {ts vs : List Token} {ps : List (List Token)} (us : List Token)
      → ts ≡ us ++ (sign sign.Comma ∷ vs) → Parts vs ps → Parts ts (us ∷ ps)

onto : {ts : List Token} {ps : List (List Token)} (t : Token) → Parts ts ps
    → Parts (t ∷ ts) (onto_first t ps)
onto t whole = whole
onto t (first us e p) = first (t ∷ us) (ap (λ ws. t ∷ ws) e) p

comma_is : (t : Token) → is_comma t ≡ true → t ≡ sign sign.Comma
comma_is (sign sign.Comma) h = refl
comma_is t h = absurd cc

part_if : (d : ℕ) (t : Token) (ts : List Token) (b c : Bool) → is_comma t ≡ b → (d == 0) ≡ c
    → Parts ts (parts_from d ts) → Parts ts (parts_from (depth_behind d t) ts)
    → Parts (t ∷ ts)
    (cond (b && c) ([] ∷ parts_from d ts) (onto_first t (parts_from (depth_behind d t) ts)))
part_if d t ts true true h k p q = first [] (ap (λ u. u ∷ ts) (comma_is t h)) p
part_if d t ts true false h k p q = onto t q
part_if d t ts false c h k p q = onto t q

parts_inside : (ts : List Token) (d : ℕ) → Parts ts (parts_from d ts)
parts_inside [] d = whole
parts_inside (t ∷ ts) d =
    part_if d t ts (is_comma t) (d == 0) refl refl (parts_inside ts d)
    (parts_inside ts (depth_behind d t))

pub parts_of : (ts : List Token) → Parts ts (answer_parts ts)
parts_of ts = parts_inside ts 0

pub lists_are : (xs ys : List Told) → Some xs ≡ Some ys → xs ≡ ys
lists_are xs ys e = cc

first_of : (a : Option Told) (o : Option (List Told)) (xs : List Told) → with_first a o ≡ Some xs
    → (x : Told) × (ys : List Told) × (a ≡ Some x) × (o ≡ Some ys) × (xs ≡ x ∷ ys)
first_of None o xs e = absurd cc
first_of (Some x) None xs e = absurd cc
first_of (Some x) (Some ys) xs e = (x, ys, refl, refl, sym (lists_are (x ∷ ys) xs e))

answers_found : {ts : List Token} {ps : List (List Token)} (xs : List Told) → Parts ts ps
    → answers_of ps ≡ Some xs → (bs : List Answer) × SpellsAnswers ts bs × (xs ≡ map told bs)
answers_found xs (whole {ts = ts}) e =
    let f = first_of (answer_of ts) (Some []) xs e in
    let a = answer_found ts f.0 f.2 in
    let ends : [] ≡ f.1 = lists_are [] f.1 f.3 in
    (a.0 ∷ [], one a.1, f.4 ∙ ap (λ x. x ∷ f.1) a.2 ∙ ap (λ ys. told a.0 ∷ ys) (sym ends))
answers_found xs (first {ps = ps} us h p) e =
    let f = first_of (answer_of us) (answers_of ps) xs e in
    let a = answer_found us f.0 f.2 in
    let r = answers_found f.1 p f.3 in
    (a.0 ∷ r.0, more us h a.1 r.1, f.4 ∙ ap (λ x. x ∷ f.1) a.2 ∙ ap (λ ys. told a.0 ∷ ys) r.2)

-- a list that its tokens spell is read
pub all_read : {ts : List Token} {bs : List Answer} → SpellsAnswers ts bs
    → all_answers ts ≡ Some (map told bs)
unfolding all_answers
all_read (one {ts = ts} {a = a} s) =
    ap answers_of (whole_part ts (answer_stays ts a s))
    ∙ ap (λ x. with_first x (Some [])) (answer_read ts a s)
all_read (more {ts = ts} {vs = vs} {a = a} us e s p) =
    ap (λ ws. answers_of (answer_parts ws)) e
    ∙ ap answers_of (part_before us vs (answer_stays us a s))
    ∙ ap (λ x. with_first x (answers_of (answer_parts vs))) (answer_read us a s)
    ∙ ap (with_first (Some (told a))) (all_read p)

-- a whole text
pub answers_read : (text : List ℕ) (ts : List Token) (bs : List Answer) → Lexes text ts
    → ReadsAnswers text bs → all_answers ts ≡ Some (map told bs)
answers_read text ts bs l r = ap all_answers (one_list l r.lexed) ∙ all_read r.spelled

pub one_answers : (text : List ℕ) (bs cs : List Answer) → ReadsAnswers text bs
    → ReadsAnswers text cs → map told bs ≡ map told cs
one_answers text bs cs r s =
    lists_are (map told bs) (map told cs)
    (sym (answers_read text r.ts bs r.lexed r) ∙ answers_read text r.ts cs r.lexed s)

pub answers_in : (text : List ℕ) (ts : List Token) (xs : List Told) → Lexes text ts
    → nests ts ≡ true → all_answers ts ≡ Some xs
    → (bs : List Answer) × ReadsAnswers text bs × (xs ≡ map told bs)
unfolding all_answers
answers_in text ts xs l n e = let f = answers_found xs (parts_of ts) e in
    (f.0, record { ts = ts; lexed = l; spelled = f.1; nested = n }, f.2)

-- the code's parts, from place i on
module _ {A : Type 0} (f : A → Token) (xs : List A) (i : ℕ) where
  pub part_is : (n : ℕ) → answer_parts (map f (take (length xs - i) (drop i xs)))
      ≡ map f (take n (take (length xs - i) (drop i xs))) ∷ answer_parts
      (map f (drop (n + 1) (take (length xs - i) (drop i xs))))
      → answer_parts (map f (drop i xs))
      ≡ map f (take (i + n - i) (drop i xs)) ∷ answer_parts (map f (drop (i + (n + 1)) xs))
  part_is n h =
      let e : i + n - i ≡ n = omega arith in
      let k = rw (take_rest xs i, drop-drop (n + 1) i xs) at h in
      rw e k

  pub last_is : answer_parts (map f (take (length xs - i) (drop i xs)))
      ≡ map f (take (length xs - i) (drop i xs)) ∷ []
      → answer_parts (map f (drop i xs)) ≡ map f (take (length xs - i) (drop i xs)) ∷ []
  last_is h = ap (λ ys. answer_parts (map f ys)) (sym (take_rest xs i)) ∙ h

-- the answers so far, and the rest
abbrev pub after : List Told → Option (List Told) → Option (List Told)
after done o = option_map (λ xs. done ++ xs) o

pub begins : (o : Option (List Told)) → o ≡ after [] o
begins None = refl
begins (Some xs) = refl

one_more : (done : List Told) (a : Told) (o : Option (List Told))
    → after done (with_first (Some a) o) ≡ after (done ++ (a ∷ [])) o
one_more done a None = refl
one_more done a (Some xs) = ap Some (sym (append_assoc done (a ∷ []) xs))

module _ (all : Option (List Told)) (done : List Told) (ts p : List Token) where
  pub goes_on : (us : List Token) (a : Told) → all ≡ after done (all_answers ts)
      → answer_parts ts ≡ p ∷ answer_parts us → answer_of p ≡ Some a
      → all ≡ after (done ++ (a ∷ [])) (all_answers us)
  unfolding all_answers
  goes_on us a so_far cut h =
      so_far ∙ ap (λ ps. after done (answers_of ps)) cut
      ∙ ap (λ x. after done (with_first x (all_answers us))) h
      ∙ one_more done a (all_answers us)

  pub stops : (ps : List (List Token)) → all ≡ after done (all_answers ts)
      → answer_parts ts ≡ p ∷ ps → answer_of p ≡ None → all ≡ None
  unfolding all_answers
  stops ps so_far cut h = so_far ∙ ap (λ qs. after done (answers_of qs)) cut
      ∙ ap (λ x. after done (with_first x (answers_of ps))) h

  pub finishes : (a : Told) → all ≡ after done (all_answers ts) → answer_parts ts ≡ p ∷ []
      → answer_of p ≡ Some a → all ≡ Some (done ++ (a ∷ []))
  unfolding all_answers
  finishes a so_far cut h = so_far ∙ ap (λ qs. after done (answers_of qs)) cut
      ∙ ap (λ x. after done (with_first x (Some []))) h

-- a part that stops makes the list stop
pub unless_weaker : {P Q : Type 0} (e : SyntaxError) → (P → Q) → UnlessMemory P e → UnlessMemory Q e
unless_weaker OutOfMemory f h = tt
unless_weaker e f h = f h
