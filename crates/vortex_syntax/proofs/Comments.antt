-- A comment up to its end, step by step.
use Rattle.std.proofs.Common.{◌≢◌, ◌≡◌, ℕ, suc, ◌+◌, ◌-◌, ◌<◌, ◌≤◌, true, false, ◌==◌, ◌&&◌, List, [], ◌∷◌}
use Rattle.std.proofs.Common.{length, get_or, drop, Some, None, refl, ap, sym, ◌∙◌, arith, length-drop}
use Rattle.std.proofs.lemmas.Bool.Decides.{nat_tests}
use Rattle.std.proofs.Math.Seq.{drop-cons}
use Rattle.vortex_syntax.specs.Pieces.{behind_comment}

-- what is read so far leaves the result as it is
pub record SoFar (xs : List ℕ) (d i : ℕ) : Type 0 where
  pub within : i ≤ length xs
  pub deep : d ≤ i
  pub same : behind_comment 0 xs ≡ behind_comment d (drop i xs)

pub at_first : (xs : List ℕ) → SoFar xs 0 0
at_first xs = record { within = omega arith; deep = omega arith; same = refl }

-- the next two bytes
two : (xs : List ℕ) (i : ℕ) → i + 1 < length xs
    → drop i xs ≡ get_or xs i 0 ∷ get_or xs (i + 1) 0 ∷ drop (i + 2) xs
two xs i lt =
    let one : suc i ≡ i + 1 = omega arith in
    let more : suc (i + 1) ≡ i + 2 = omega arith in
    drop-cons xs i 0 (omega (arith, lt))
    ∙ ap (λ n. get_or xs i 0 ∷ drop n xs) one
    ∙ ap (λ ys. get_or xs i 0 ∷ ys) (drop-cons xs (i + 1) 0 lt)
    ∙ ap (λ n. get_or xs i 0 ∷ get_or xs (i + 1) 0 ∷ drop n xs) more

second : (xs : List ℕ) (i : ℕ) → i + 1 < length xs
    → get_or xs (i + 1) 0 ∷ drop (i + 2) xs ≡ drop (i + 1) xs
second xs i lt =
    let more : i + 2 ≡ suc (i + 1) = omega arith in
    ap (λ n. get_or xs (i + 1) 0 ∷ drop n xs) more ∙ sym (drop-cons xs (i + 1) 0 lt)

opens : (d b c : ℕ) (bs : List ℕ) → ((b == 47) && (c == 42)) ≡ true
    → behind_comment d (b ∷ c ∷ bs) ≡ behind_comment (suc d) bs
opens d b c bs h = rw h refl

closes : (d b c : ℕ) (bs : List ℕ) → ((b == 47) && (c == 42)) ≡ false
    → ((b == 42) && (c == 47)) ≡ true → (d == 0) ≡ false
    → behind_comment d (b ∷ c ∷ bs) ≡ behind_comment (d - 1) bs
closes d b c bs h k j = rw (h, k, j) refl

ends : (d b c : ℕ) (bs : List ℕ) → ((b == 47) && (c == 42)) ≡ false
    → ((b == 42) && (c == 47)) ≡ true → (d == 0) ≡ true
    → behind_comment d (b ∷ c ∷ bs) ≡ Some bs
ends d b c bs h k j = rw (h, k, j) refl

goes : (d b c : ℕ) (bs : List ℕ) → ((b == 47) && (c == 42)) ≡ false
    → ((b == 42) && (c == 47)) ≡ false
    → behind_comment d (b ∷ c ∷ bs) ≡ behind_comment d (c ∷ bs)
goes d b c bs h k = rw (h, k) refl

short : (d : ℕ) (ys : List ℕ) → length ys ≤ 1 → behind_comment d ys ≡ None
short d [] le = refl
short d (b ∷ []) le = refl
short d (b ∷ c ∷ bs) le = absurd (let k : ⊥ = omega (arith, le) in k)

pub inner : (d : ℕ) → d ≢ 0 → (d == 0) ≡ false
inner d h = grind (arith, nat_tests)

-- each step
module _ (xs : List ℕ) (d i : ℕ) (lt : i + 1 < length xs) (s : SoFar xs d i) where
  pub to_inner : ((get_or xs i 0 == 47) && (get_or xs (i + 1) 0 == 42)) ≡ true
      → SoFar xs (d + 1) (i + 2)
  to_inner h =
      let more : suc d ≡ d + 1 = omega arith in
      record {
        within = omega (arith, lt);
        deep = omega (arith, s.deep);
        same =
            s.same ∙ ap (behind_comment d) (two xs i lt)
            ∙ opens d (get_or xs i 0) (get_or xs (i + 1) 0) (drop (i + 2) xs) h
            ∙ ap (λ n. behind_comment n (drop (i + 2) xs)) more;
      }

  pub to_outer : ((get_or xs i 0 == 47) && (get_or xs (i + 1) 0 == 42)) ≡ false
      → ((get_or xs i 0 == 42) && (get_or xs (i + 1) 0 == 47)) ≡ true → (d == 0) ≡ false
      → SoFar xs (d - 1) (i + 2)
  to_outer h k j = record {
    within = omega (arith, lt);
    deep = omega (arith, s.deep);
    same =
        s.same ∙ ap (behind_comment d) (two xs i lt)
        ∙ closes d (get_or xs i 0) (get_or xs (i + 1) 0) (drop (i + 2) xs) h k j;
  }

  pub to_end : ((get_or xs i 0 == 47) && (get_or xs (i + 1) 0 == 42)) ≡ false
      → ((get_or xs i 0 == 42) && (get_or xs (i + 1) 0 == 47)) ≡ true → (d == 0) ≡ true
      → behind_comment 0 xs ≡ Some (drop (i + 2) xs)
  to_end h k j =
      s.same ∙ ap (behind_comment d) (two xs i lt)
      ∙ ends d (get_or xs i 0) (get_or xs (i + 1) 0) (drop (i + 2) xs) h k j

  pub to_next : ((get_or xs i 0 == 47) && (get_or xs (i + 1) 0 == 42)) ≡ false
      → ((get_or xs i 0 == 42) && (get_or xs (i + 1) 0 == 47)) ≡ false → SoFar xs d (i + 1)
  to_next h k = record {
    within = omega (arith, lt);
    deep = omega (arith, s.deep);
    same =
        s.same ∙ ap (behind_comment d) (two xs i lt)
        ∙ goes d (get_or xs i 0) (get_or xs (i + 1) 0) (drop (i + 2) xs) h k
        ∙ ap (behind_comment d) (second xs i lt);
  }

pub no_end : (xs : List ℕ) (d i : ℕ) → length xs ≤ i + 1 → SoFar xs d i
    → behind_comment 0 xs ≡ None
no_end xs d i le s = s.same ∙ short d (drop i xs) (omega (arith, length-drop i xs, le))
