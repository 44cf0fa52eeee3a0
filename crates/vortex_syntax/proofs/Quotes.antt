-- A text up to its closing quote, step by step.
use Rattle.std.proofs.Common.{◌≡◌, ℕ, suc, ◌+◌, ◌-◌, ◌<◌, ◌≤◌, true, false, ◌==◌, List, [], ◌∷◌}
use Rattle.std.proofs.Common.{◌++◌, length, get_or, take, drop, Option, Some, None, ◌≢◌, refl, ap}
use Rattle.std.proofs.Common.{sym, subst, ◌∙◌, append_assoc, add-one, add-zero, arith, length-drop}
use Rattle.std.proofs.Common.{get_or-drop}
use Rattle.std.proofs.Math.Seq.{drop-cons, take-suc}
use Rattle.std.proofs.lemmas.List.{append-nil, take_all, drop_all}
use Rattle.std.proofs.lemmas.Bool.{eq-eqb}
use Rattle.std.proofs.lemmas.Bool.Decides.{nat_tests}
use Rattle.vortex_syntax.specs.Pieces.{with_front, closed}

with_front-append : (xs ys : List ℕ) (v : Option (List ℕ × List ℕ))
    → with_front xs (with_front ys v) ≡ with_front (xs ++ ys) v
with_front-append xs ys None = refl
with_front-append xs ys (Some x) = ap (λ zs. Some (zs, x.1)) (sym (append_assoc xs ys x.0))

with_front-nil : (v : Option (List ℕ × List ℕ)) → with_front [] v ≡ v
with_front-nil None = refl
with_front-nil (Some x) = refl

pub closed_other : (q b : ℕ) (bs : List ℕ) → (b == q) ≡ false
    → closed q (b ∷ bs) ≡ with_front (b ∷ []) (closed q bs)
closed_other q b [] h = rw h refl
closed_other q b (c ∷ bs) h = rw h refl

pub closed_twice : (q b c : ℕ) (bs : List ℕ) → (b == q) ≡ true → (c == q) ≡ true
    → closed q (b ∷ c ∷ bs) ≡ with_front (b ∷ c ∷ []) (closed q bs)
closed_twice q b c bs h k = rw (h, k) refl

closed_last : (q b : ℕ) (bs : List ℕ) → (b == q) ≡ true
    → (0 < length bs → (get_or bs 0 0 == q) ≡ false) → closed q (b ∷ bs) ≡ Some ([], bs)
closed_last q b [] h k = rw h refl
closed_last q b (c ∷ bs) h k = let e : (c == q) ≡ false = k (omega arith) in rw (h, e) refl

-- what is read so far leaves the result as it is
pub record SoFar (q : ℕ) (xs : List ℕ) (i : ℕ) : Type 0 where
  pub within : i ≤ length xs
  pub same : closed q xs ≡ with_front (take i xs) (closed q (drop i xs))

pub so_far_none : (q : ℕ) (xs : List ℕ) → SoFar q xs 0
so_far_none q xs = record { within = omega arith; same = sym (with_front-nil (closed q xs)) }

pub so_far_other : (q : ℕ) (xs : List ℕ) (i : ℕ) → i < length xs → (get_or xs i 0 == q) ≡ false
    → SoFar q xs i → SoFar q xs (suc i)
so_far_other q xs i lt h s = record {
  within = omega (arith, lt);
  same =
      s.same
      ∙ ap (λ ys. with_front (take i xs) (closed q ys)) (drop-cons xs i 0 lt)
      ∙ ap (with_front (take i xs)) (closed_other q (get_or xs i 0) (drop (suc i) xs) h)
      ∙ with_front-append (take i xs) (get_or xs i 0 ∷ []) (closed q (drop (suc i) xs))
      ∙ ap (λ ys. with_front ys (closed q (drop (suc i) xs))) (sym (take-suc xs i 0 lt));
}

pub so_far_twice : (q : ℕ) (xs : List ℕ) (i : ℕ) → suc i < length xs → (get_or xs i 0 == q) ≡ true
    → (get_or xs (suc i) 0 == q) ≡ true → SoFar q xs i → SoFar q xs (suc (suc i))
so_far_twice q xs i lt h k s =
    let first : i < length xs = omega (arith, lt) in
    let b = get_or xs i 0 in
    let c = get_or xs (suc i) 0 in
    record {
      within = omega (arith, lt);
      same =
          s.same
          ∙ ap (λ ys. with_front (take i xs) (closed q ys))
          (drop-cons xs i 0 first ∙ ap (λ ys. b ∷ ys) (drop-cons xs (suc i) 0 lt))
          ∙ ap (with_front (take i xs)) (closed_twice q b c (drop (suc (suc i)) xs) h k)
          ∙ with_front-append (take i xs) (b ∷ c ∷ []) (closed q (drop (suc (suc i)) xs))
          ∙ ap (λ ys. with_front ys (closed q (drop (suc (suc i)) xs)))
          (sym (take-suc xs (suc i) 0 lt ∙ ap (λ ys. ys ++ c ∷ []) (take-suc xs i 0 first)
          ∙ append_assoc (take i xs) (b ∷ []) (c ∷ [])));
    }

pub so_far_last : (q : ℕ) (xs : List ℕ) (i : ℕ) → i < length xs → (get_or xs i 0 == q) ≡ true
    → (suc i < length xs → (get_or xs (suc i) 0 == q) ≡ false) → SoFar q xs i
    → closed q xs ≡ Some (take i xs, drop (suc i) xs)
so_far_last q xs i lt h k s =
    let b = get_or xs i 0 in
    let last : 0 < length (drop (suc i) xs) → (get_or (drop (suc i) xs) 0 0 == q) ≡ false = λ more.
    rw (get_or-drop, add-zero) (k (omega (arith, more, length-drop (suc i) xs))) in
    s.same
    ∙ ap (λ ys. with_front (take i xs) (closed q ys)) (drop-cons xs i 0 lt)
    ∙ ap (with_front (take i xs)) (closed_last q b (drop (suc i) xs) h last)
    ∙ ap (λ ys. Some (ys, drop (suc i) xs)) (append-nil (take i xs))

pub so_far_end : (q : ℕ) (xs : List ℕ) (i : ℕ) → length xs ≤ i → SoFar q xs i → closed q xs ≡ None
so_far_end q xs i le s = s.same ∙ ap (λ ys. with_front (take i xs) (closed q ys)) (drop_all i xs le)

-- the same by the positions that the loop reads
is_other : (a q : ℕ) → a ≢ q → (a == q) ≡ false
is_other a q h = grind (arith, nat_tests)

pub next_other : (q : ℕ) (xs : List ℕ) (i : ℕ) → i < length xs → get_or xs i 0 ≢ q → SoFar q xs i
    → SoFar q xs (i + 1)
next_other q xs i lt h s = rw add-one (so_far_other q xs i lt (is_other (get_or xs i 0) q h) s)

pub next_twice : (q : ℕ) (xs : List ℕ) (i : ℕ) → i + 1 < length xs → get_or xs i 0 ≡ q
    → get_or xs (i + 1) 0 ≡ q → SoFar q xs i → SoFar q xs (i + 2)
next_twice q xs i lt h k s =
    let two : i + 2 ≡ suc (suc i) = omega arith in
    let one : i + 1 ≡ suc i = omega arith in
    let k' : get_or xs (suc i) 0 ≡ q = subst (λ (n : ℕ). get_or xs n 0 ≡ q) one k in
    subst (λ (n : ℕ). SoFar q xs n) (sym two)
    (so_far_twice q xs i (omega (arith, lt)) (eq-eqb (get_or xs i 0) q h)
    (eq-eqb (get_or xs (suc i) 0) q k') s)

pub at_last : (q : ℕ) (xs : List ℕ) (i : ℕ) → i < length xs → get_or xs i 0 ≡ q
    → (i + 1 < length xs → get_or xs (i + 1) 0 ≢ q) → SoFar q xs i
    → closed q xs ≡ Some (take i xs, drop (suc i) xs)
at_last q xs i lt h k s =
    let one : i + 1 ≡ suc i = omega arith in
    so_far_last q xs i lt (eq-eqb (get_or xs i 0) q h)
    (λ more. is_other (get_or xs (suc i) 0) q
    (subst (λ (n : ℕ). get_or xs n 0 ≢ q) one (k (omega (arith, more))))) s

-- the rest of a slice, up to its end
pub cut_rest : (n : ℕ) (xs : List ℕ)
    → take (length xs - (n + 1)) (drop (n + 1) xs) ≡ drop (suc n) xs
cut_rest n xs =
    rw add-one (take_all (length xs - suc n) (drop (suc n) xs)
    (omega (arith, length-drop (suc n) xs)))
