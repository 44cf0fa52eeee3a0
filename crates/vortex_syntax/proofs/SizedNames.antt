-- The names of types with sizes, within longer texts.
use Rattle.std.proofs.Common.{◌≡◌, ℕ, ◌-◌, Bool, true, false, cond, ◌==◌, List, [], ◌∷◌, ◌++◌}
use Rattle.std.proofs.Common.{length, take, Option, Some, None, refl, ap, sym, ◌∙◌, append_assoc}
use Rattle.std.proofs.Common.{arith, length-append, map, ◌&&◌, ◌||◌}
use Rattle.std.specs.Option.{option_and_then}
use Rattle.std.specs.Prelude.{codes}
use Rattle.std.specs.Char.{to_ascii_lowercase}
use Rattle.std.specs.Str.{bytes_eq}
use Rattle.std.specs.List.{list_all}
use Rattle.std.proofs.Math.Seq.{take-append_seam}
use Rattle.std.proofs.lemmas.Bool.{and_parts, false≢true, eqb-true}
use Rattle.std.proofs.lemmas.Bool.Decides.{nat_tests}
use Rattle.std.proofs.lemmas.List.{append-nil}
use Rattle.vortex_syntax.specs.declared.pieces.Run.TheVariants.{Word, Digits, Blank}
use Rattle.vortex_syntax.specs.Pieces.{is_in, front, behind, begins_digits, is_sized_word}
use Rattle.vortex_syntax.specs.Pieces.{begins_word}
use Rattle.vortex_syntax.specs.Pieces.{behind_blanks, behind_size, behind_close, behind_last}
use Rattle.vortex_syntax.specs.Pieces.{behind_sizes, sizes_at, behind_sized, front_before}
use Rattle.vortex_syntax.specs.Writing.{is_nothing, is_sized}
use Rattle.vortex_syntax.proofs.Runs.{EndsRun, front_is, front_all, behind_all, run_joined}

digit_no_blank : (b : ℕ) → is_in Digits b ≡ true → is_in Blank b ≡ false
digit_no_blank b h = grind (arith, nat_tests)

blank_no_digit : (b : ℕ) → is_in Blank b ≡ true → is_in Digits b ≡ false
blank_no_digit b h = grind (arith, nat_tests)

-- what comes before the rest, whatever the rest is
record Cuts (f : List ℕ → Option (List ℕ)) (xs rest : List ℕ) : Type 0 where
  front : List ℕ
  whole : xs ≡ front ++ rest
  again : (zs : List ℕ) → f (front ++ zs) ≡ Some zs

-- the same where no digit and no blank follows
record Reaches (xs rest : List ℕ) : Type 0 where
  front : List ℕ
  whole : xs ≡ front ++ rest
  again : (c : ℕ) (zs : List ℕ) → is_in Blank c ≡ false → is_in Digits c ≡ false
      → behind_size (front ++ (c ∷ zs)) ≡ Some (c ∷ zs)

some_is : (xs ys : List ℕ) → Some xs ≡ Some ys → xs ≡ ys
some_is xs ys e = cc

-- blanks end before a digit, and digits before a blank or another byte
begin_blanks : (ds us : List ℕ) → begins_digits ds ≡ true
    → EndsRun Blank (front Digits ds ++ us)
begin_blanks [] us h = absurd (false≢true h)
begin_blanks (d ∷ ds) us h =
    let is : is_in Digits d ≡ true = h in rw is (digit_no_blank d h)

begins_still : (ds us : List ℕ) → begins_digits ds ≡ true
    → begins_digits (front Digits ds ++ us) ≡ true
begins_still [] us h = absurd (false≢true h)
begins_still (d ∷ ds) us h = let is : is_in Digits d ≡ true = h in rw is h

end_digits : (bs us : List ℕ) → list_all (is_in Blank) bs ≡ true → EndsRun Digits us
    → EndsRun Digits (bs ++ us)
end_digits [] us h e = e
end_digits (b ∷ bs) us h e =
    blank_no_digit b (and_parts (is_in Blank b) (list_all (is_in Blank) bs) h).0

size_again : (bs ds es : List ℕ) → list_all (is_in Blank) bs ≡ true → begins_digits ds ≡ true
    → list_all (is_in Blank) es ≡ true → (c : ℕ) (zs : List ℕ) → is_in Blank c ≡ false
    → is_in Digits c ≡ false
    → behind_size (bs ++ (front Digits ds ++ (es ++ (c ∷ zs)))) ≡ Some (c ∷ zs)
size_again bs ds es h k j c zs nb nd =
    let after : List ℕ = es ++ (c ∷ zs) in
    let digits : List ℕ = front Digits ds ++ after in
    ap behind_blanks (behind_all Blank bs digits h (begin_blanks ds after k))
    ∙ ap (λ b. cond b (Some (behind Blank (behind Digits digits))) None)
    (begins_still ds after k)
    ∙ ap (λ xs. Some (behind Blank xs))
    (behind_all Digits (front Digits ds) after (front_is Digits ds) (end_digits es (c ∷ zs) j nd))
    ∙ ap (λ xs. Some xs) (behind_all Blank es (c ∷ zs) j nb)

size_if : (xs rest : List ℕ) (b : Bool) → begins_digits (behind Blank xs) ≡ b
    → cond b (Some (behind Blank (behind Digits (behind Blank xs)))) None ≡ Some rest
    → Reaches xs rest
size_if xs rest false k e = absurd cc
size_if xs rest true k e =
    let ds : List ℕ = behind Blank xs in
    let es : List ℕ = behind Digits ds in
    record {
      front = front Blank xs ++ (front Digits ds ++ front Blank es);
      whole =
          sym (run_joined Blank xs)
          ∙ ap (λ ys. front Blank xs ++ ys)
          (sym (run_joined Digits ds)
          ∙ ap (λ ys. front Digits ds ++ ys)
          (sym (run_joined Blank es) ∙ ap (λ ys. front Blank es ++ ys)
          (some_is (behind Blank es) rest e)))
          ∙ regrouped (front Blank xs) (front Digits ds) (front Blank es) rest;
      again = λ c zs nb nd.
          ap behind_size (sym (regrouped (front Blank xs) (front Digits ds) (front Blank es) (c ∷ zs)))
          ∙ size_again (front Blank xs) ds (front Blank es) (front_is Blank xs) k
          (front_is Blank es) c zs nb nd;
    }
  where
    regrouped : (a b c d : List ℕ) → a ++ (b ++ (c ++ d)) ≡ (a ++ (b ++ c)) ++ d
    regrouped a b c d = simp append_assoc

size_cut : (xs rest : List ℕ) → behind_size xs ≡ Some rest → Reaches xs rest
size_cut xs rest e = size_if xs rest (begins_digits (behind Blank xs)) refl e

-- the bracket that closes, after that size
close_if : (xs : List ℕ) (b : ℕ) (bs rest : List ℕ) → Reaches xs (b ∷ bs) → (v : Bool)
    → (b == 41) ≡ v → cond v (Some bs) None ≡ Some rest
    → Cuts (λ ys. option_and_then behind_close (behind_size ys)) xs rest
close_if xs b bs rest r false h e = absurd cc
close_if xs b bs rest r true h e = record {
  front = r.front ++ (41 ∷ []);
  whole =
      r.whole ∙ ap (λ c. r.front ++ (c ∷ bs)) (eqb-true b 41 h)
      ∙ ap (λ ys. r.front ++ (41 ∷ ys)) (some_is bs rest e)
      ∙ sym (append_assoc r.front (41 ∷ []) rest);
  again = λ zs.
      ap (λ ys. option_and_then behind_close (behind_size ys))
      (append_assoc r.front (41 ∷ []) zs)
      ∙ ap (λ o. option_and_then behind_close o) (r.again 41 zs refl refl);
}

close_cut : (xs : List ℕ) (o : Option (List ℕ)) (rest : List ℕ) → behind_size xs ≡ o
    → option_and_then behind_close o ≡ Some rest
    → Cuts (λ ys. option_and_then behind_close (behind_size ys)) xs rest
close_cut xs None rest k e = absurd cc
close_cut xs (Some []) rest k e = absurd cc
close_cut xs (Some (b ∷ bs)) rest k e =
    close_if xs b bs rest (size_cut xs (b ∷ bs) k) (b == 41) refl e

abbrev last_of : List ℕ → Option (List ℕ)
last_of ys = option_and_then behind_last (behind_size ys)

last_if : (xs : List ℕ) (b : ℕ) (bs rest : List ℕ) → Reaches xs (b ∷ bs) → (v w : Bool)
    → (b == 41) ≡ v → (b == 44) ≡ w
    → cond v (Some bs) (cond w (option_and_then behind_close (behind_size bs)) None) ≡ Some rest
    → Cuts last_of xs rest
last_if xs b bs rest r true w h k e = record {
  front = r.front ++ (41 ∷ []);
  whole =
      r.whole ∙ ap (λ c. r.front ++ (c ∷ bs)) (eqb-true b 41 h)
      ∙ ap (λ ys. r.front ++ (41 ∷ ys)) (some_is bs rest e)
      ∙ sym (append_assoc r.front (41 ∷ []) rest);
  again = λ zs.
      ap last_of (append_assoc r.front (41 ∷ []) zs)
      ∙ ap (λ o. option_and_then behind_last o) (r.again 41 zs refl refl);
}
last_if xs b bs rest r false true h k e =
    let s = close_cut bs (behind_size bs) rest refl e in
    record {
      front = r.front ++ (44 ∷ s.front);
      whole =
          r.whole ∙ ap (λ c. r.front ++ (c ∷ bs)) (eqb-true b 44 k)
          ∙ ap (λ ys. r.front ++ (44 ∷ ys)) s.whole
          ∙ sym (append_assoc r.front (44 ∷ s.front) rest);
      again = λ zs.
          ap last_of (append_assoc r.front (44 ∷ s.front) zs)
          ∙ ap (λ o. option_and_then behind_last o) (r.again 44 (s.front ++ zs) refl refl)
          ∙ s.again zs;
    }
last_if xs b bs rest r false false h k e = absurd cc

last_cut : (xs : List ℕ) (o : Option (List ℕ)) (rest : List ℕ) → behind_size xs ≡ o
    → option_and_then behind_last o ≡ Some rest → Cuts last_of xs rest
last_cut xs None rest k e = absurd cc
last_cut xs (Some []) rest k e = absurd cc
last_cut xs (Some (b ∷ bs)) rest k e =
    last_if xs b bs rest (size_cut xs (b ∷ bs) k) (b == 41) (b == 44) refl refl e

sizes_if : (b : ℕ) (bs rest : List ℕ) (v : Bool) → (b == 40) ≡ v
    → cond v (last_of bs) None ≡ Some rest → Cuts behind_sizes (b ∷ bs) rest
sizes_if b bs rest false h e = absurd cc
sizes_if b bs rest true h e =
    let s = last_cut bs (behind_size bs) rest refl e in
    record {
      front = 40 ∷ s.front;
      whole = ap (λ c. c ∷ bs) (eqb-true b 40 h) ∙ ap (λ ys. 40 ∷ ys) s.whole;
      again = λ zs. s.again zs;
    }

sizes_cut : (xs rest : List ℕ) → behind_sizes xs ≡ Some rest → Cuts behind_sizes xs rest
sizes_cut [] rest e = absurd cc
sizes_cut (b ∷ bs) rest e = sizes_if b bs rest (b == 40) refl e

-- no word goes on at a bracket
bracket_ends : (xs zs : List ℕ) → behind_sizes (xs ++ zs) ≡ Some zs → EndsRun Word (xs ++ zs)
bracket_ends xs zs e = by (xs ++ zs) e
  where
    by_if : (b : ℕ) (bs : List ℕ) (v : Bool) → (b == 40) ≡ v → cond v (last_of bs) None ≡ Some zs
        → is_in Word b ≡ false
    by_if b bs true h e = ap (is_in Word) (eqb-true b 40 h)
    by_if b bs false h e = absurd cc

    by : (ys : List ℕ) → behind_sizes ys ≡ Some zs → EndsRun Word ys
    by [] e = tt
    by (b ∷ bs) e = by_if b bs (b == 40) refl e

sized_if : (xs rest : List ℕ) (v : Bool) → is_sized_word (front Word xs) ≡ v
    → cond v (behind_sizes (behind Word xs)) None ≡ Some rest → Cuts behind_sized xs rest
sized_if xs rest false h e = absurd cc
sized_if xs rest true h e =
    let w : List ℕ = front Word xs in
    let s = sizes_cut (behind Word xs) rest e in
    record {
      front = w ++ s.front;
      whole =
          sym (run_joined Word xs) ∙ ap (λ ys. w ++ ys) s.whole
          ∙ sym (append_assoc w s.front rest);
      again = λ zs.
          let ys : List ℕ = s.front ++ zs in
          let ends = bracket_ends s.front zs (s.again zs) in
          ap behind_sized (append_assoc w s.front zs)
          ∙ ap (λ v. sizes_at v (behind Word (w ++ ys))) (front_all Word w ys (front_is Word xs) ends)
          ∙ ap (sizes_at w) (behind_all Word w ys (front_is Word xs) ends)
          ∙ ap (λ b. cond b (behind_sizes ys) None) h ∙ s.again zs;
    }

sized_cut : (xs rest : List ℕ) → behind_sized xs ≡ Some rest → Cuts behind_sized xs rest
sized_cut xs rest e = sized_if xs rest (is_sized_word (front Word xs)) refl e

nothing_is : (o : Option (List ℕ)) → is_nothing o ≡ true → o ≡ Some []
nothing_is None h = absurd (false≢true h)
nothing_is (Some []) h = refl
nothing_is (Some (b ∷ bs)) h = absurd (false≢true h)

-- a name with sizes is one whatever follows it
pub sized_before : (w rest : List ℕ) → is_sized w ≡ true → behind_sized (w ++ rest) ≡ Some rest
sized_before w rest h =
    let s = sized_cut w [] (nothing_is (behind_sized w) h) in
    ap (λ v. behind_sized (v ++ rest)) (s.whole ∙ append-nil s.front) ∙ s.again rest

pub front_cut : (w rest : List ℕ) → front_before (w ++ rest) rest ≡ w
front_cut w rest =
    let lengths : length (w ++ rest) - length rest ≡ length w =
    omega (arith, length-append w rest) in
    ap (λ n. take n (w ++ rest)) lengths ∙ take-append_seam w rest

-- what is read as one can be written
pub sized_is : (xs rest : List ℕ) → behind_sized xs ≡ Some rest
    → is_sized (front_before xs rest) ≡ true
sized_is xs rest e =
    let s = sized_cut xs rest e in
    ap (λ ys. is_sized (front_before ys rest)) s.whole
    ∙ ap is_sized (front_cut s.front rest)
    ∙ ap (λ ys. is_sized ys) (sym (append-nil s.front))
    ∙ ap is_nothing (s.again [])

-- such a word begins with a letter
begins_low : (c : ℕ) → to_ascii_lowercase c ≡ 100 → begins_word c ≡ true
begins_low c h = grind (arith, nat_tests)

begins_numeric : (c : ℕ) → to_ascii_lowercase c ≡ 110 → begins_word c ≡ true
begins_numeric c h = grind (arith, nat_tests)

begins_text : (c : ℕ) → to_ascii_lowercase c ≡ 118 → begins_word c ≡ true
begins_text c h = grind (arith, nat_tests)

sized_first : (c : ℕ) (cs : List ℕ) → is_sized_word (c ∷ cs) ≡ true → begins_word c ≡ true
sized_first c cs h =
    by (to_ascii_lowercase c == 100) (to_ascii_lowercase c == 110) (to_ascii_lowercase c == 118)
    refl refl refl h
  where
    low : List ℕ
    low = map to_ascii_lowercase cs

    by : (v w u : Bool) → (to_ascii_lowercase c == 100) ≡ v → (to_ascii_lowercase c == 110) ≡ w
        → (to_ascii_lowercase c == 118) ≡ u
        → (((v && bytes_eq low (codes "ecimal")) || (w && bytes_eq low (codes "umeric")))
        || (u && bytes_eq low (codes "archar"))) ≡ true
        → begins_word c ≡ true
    by true w u e k m j = begins_low c (eqb-true (to_ascii_lowercase c) 100 e)
    by false true u e k m j = begins_numeric c (eqb-true (to_ascii_lowercase c) 110 k)
    by false false true e k m j = begins_text c (eqb-true (to_ascii_lowercase c) 118 m)
    by false false false e k m j = absurd (false≢true j)

abbrev pub BeginsWord : List ℕ → Type 0
BeginsWord [] = ⊥
BeginsWord (b ∷ bs) = begins_word b ≡ true

front_first : (b : ℕ) (bs : List ℕ) (v : Bool)
    → is_sized_word (cond v (b ∷ front Word bs) []) ≡ true → begins_word b ≡ true
front_first b bs true h = sized_first b (front Word bs) h
front_first b bs false h = absurd (false≢true h)

begins_if : (xs rest : List ℕ) (v : Bool) → is_sized_word (front Word xs) ≡ v
    → cond v (behind_sizes (behind Word xs)) None ≡ Some rest → BeginsWord xs
begins_if xs rest false h e = absurd cc
begins_if [] rest true h e = absurd (false≢true h)
begins_if (b ∷ bs) rest true h e = front_first b bs (is_in Word b) h

pub sized_begins : (xs rest : List ℕ) → behind_sized xs ≡ Some rest → BeginsWord xs
sized_begins xs rest e = begins_if xs rest (is_sized_word (front Word xs)) refl e
