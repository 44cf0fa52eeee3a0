-- The order of byte strings by words of their bytes.
use Rattle.std.proofs.Common.{◌≡◌, ℕ, zero, suc, ◌+◌, ◌-◌, min, ◌*◌, ◌^◌, ◌<◌, ◌≤◌, List, [], ◌∷◌}
use Rattle.std.proofs.Common.{◌++◌, length, take, drop, refl, sym, ◌∙◌, ap, arith, inl, inr, ◌⊎◌}
use Rattle.std.proofs.lemmas.Bool.{cases_order, cases_lt}
use Rattle.std.proofs.lemmas.List.{get_or-drop, length-drop, take-take, take_all}
use Rattle.std.proofs.Math.Seq.{take-add}
use Rattle.std.proofs.lemmas.Cmp.{ranked}
use Rattle.std.specs.Int.{w32, w64, from_be_bytes}
use Rattle.vortex_views.specs.ViewBytes.{padded}
use Rattle.std.specs.declared.cmp.Ordering.{Ordering}
use Rattle.std.specs.declared.cmp.Ordering.TheVariants.{Less, Equal, Greater}
use Rattle.std.specs.Ordering.{nat_cmp, ordering_then}
use Rattle.vortex_views.specs.ValueWords.{compare_bytes}
use Rattle.vortex_views.proofs.Digits.{digits, AreBytes, digits-past, digits-none, digits-below}
use Rattle.vortex_views.proofs.Digits.{first_decides, same_first, cmp_less, cmp_equal, cmp_greater}

pub then_then : (a b c : Ordering)
    → ordering_then (ordering_then a b) c ≡ ordering_then a (ordering_then b c)
then_then Less b c = refl
then_then Equal b c = refl
then_then Greater b c = refl

lengths : (m n : ℕ) → (m ≡ n) ⊎ ((m < n) ⊎ (n < m)) → nat_cmp (suc m) (suc n) ≡ nat_cmp m n
lengths m n (inl h) = cmp_equal (suc m) (suc n) (omega arith) ∙ sym (cmp_equal m n h)
lengths m n (inr (inl h)) = cmp_less (suc m) (suc n) (omega arith) ∙ sym (cmp_less m n h)
lengths m n (inr (inr h)) = cmp_greater (suc m) (suc n) (omega arith) ∙ sym (cmp_greater m n h)

-- the numbers of two lists that begin with x and with y
pub first_of_both : (n x y : ℕ) (xs ys : List ℕ) → AreBytes (x ∷ xs) → AreBytes (y ∷ ys)
    → nat_cmp (digits (suc n) 0 (x ∷ xs)) (digits (suc n) 0 (y ∷ ys))
    ≡ ordering_then (nat_cmp x y) (nat_cmp (digits n 0 xs) (digits n 0 ys))
first_of_both n x y xs ys h k =
    rw (digits-past n 0 x xs, digits-past n 0 y ys)
    (first_decides x y (digits n 0 xs) (digits n 0 ys) (256 ^ n)
    (digits-below n 0 xs (λ i. h (suc i))) (digits-below n 0 ys (λ i. k (suc i))))

nothing_below : (d l : ℕ) → Less ≡ ordering_then (nat_cmp 0 d) (nat_cmp 0 (suc l))
nothing_below zero l = sym (cmp_less 0 (suc l) (omega arith))
nothing_below (suc d) l =
    ap (λ o. ordering_then o (nat_cmp 0 (suc l))) (sym (cmp_less 0 (suc d) (omega arith)))

above_nothing : (d l : ℕ) → Greater ≡ ordering_then (nat_cmp d 0) (nat_cmp (suc l) 0)
above_nothing zero l = sym (cmp_greater (suc l) 0 (omega arith))
above_nothing (suc d) l =
    ap (λ o. ordering_then o (nat_cmp (suc l) 0)) (sym (cmp_greater (suc d) 0 (omega arith)))

shorter : {m l n : ℕ} → (suc m ≤ suc n) ⊎ (suc l ≤ suc n) → (m ≤ n) ⊎ (l ≤ n)
shorter (inl h) = inl (omega arith)
shorter (inr h) = inr (omega arith)

-- where one has at most n bytes, their first n bytes decide, else their lengths
pub by_words_and_lengths : (n : ℕ) (xs ys : List ℕ) → AreBytes xs → AreBytes ys
    → (length xs ≤ n) ⊎ (length ys ≤ n)
    → compare_bytes xs ys
    ≡ ordering_then (nat_cmp (digits n 0 xs) (digits n 0 ys)) (nat_cmp (length xs) (length ys))
by_words_and_lengths n [] [] h k s = sym (ap (λ o. ordering_then o (nat_cmp 0 0))
    (cmp_equal (digits n 0 []) (digits n 0 []) refl))
by_words_and_lengths n [] (y ∷ ys) h k s =
    rw (digits-none n 0) (nothing_below (digits n 0 (y ∷ ys)) (length ys))
by_words_and_lengths n (x ∷ xs) [] h k s =
    rw (digits-none n 0) (above_nothing (digits n 0 (x ∷ xs)) (length xs))
by_words_and_lengths zero (x ∷ xs) (y ∷ ys) h k (inl s) = absurd (omega arith)
by_words_and_lengths zero (x ∷ xs) (y ∷ ys) h k (inr s) = absurd (omega arith)
by_words_and_lengths (suc n) (x ∷ xs) (y ∷ ys) h k s =
    ap (λ o. ordering_then (nat_cmp x y) o)
    (by_words_and_lengths n xs ys (λ i. h (suc i)) (λ i. k (suc i)) (shorter s))
    ∙ sym (then_then (nat_cmp x y) (nat_cmp (digits n 0 xs) (digits n 0 ys))
    (nat_cmp (length xs) (length ys)))
    ∙ ap (λ o. ordering_then o (nat_cmp (length xs) (length ys)))
    (sym (first_of_both n x y xs ys h k))
    ∙ ap (λ o. ordering_then (nat_cmp (digits (suc n) 0 (x ∷ xs)) (digits (suc n) 0 (y ∷ ys))) o)
    (sym (lengths (length xs) (length ys) (cases_order (length xs) (length ys))))

-- where both have n bytes, their first n bytes decide, else the bytes after them
pub by_words_and_rests : (n : ℕ) (xs ys : List ℕ) → AreBytes xs → AreBytes ys
    → n ≤ length xs → n ≤ length ys
    → compare_bytes xs ys
    ≡ ordering_then (nat_cmp (digits n 0 xs) (digits n 0 ys))
    (compare_bytes (drop n xs) (drop n ys))
by_words_and_rests zero xs ys h k p q = refl
by_words_and_rests (suc n) [] ys h k p q = absurd (omega arith)
by_words_and_rests (suc n) (x ∷ xs) [] h k p q = absurd (omega arith)
by_words_and_rests (suc n) (x ∷ xs) (y ∷ ys) h k p q =
    ap (λ o. ordering_then (nat_cmp x y) o)
    (by_words_and_rests n xs ys (λ i. h (suc i)) (λ i. k (suc i)) (omega arith) (omega arith))
    ∙ sym (then_then (nat_cmp x y) (nat_cmp (digits n 0 xs) (digits n 0 ys))
    (compare_bytes (drop n xs) (drop n ys)))
    ∙ ap (λ o. ordering_then o (compare_bytes (drop n xs) (drop n ys)))
    (sym (first_of_both n x y xs ys h k))

-- equal numbers of n bytes come from equal bytes
pub same_start : (n : ℕ) (xs ys : List ℕ) → AreBytes xs → AreBytes ys
    → n ≤ length xs → n ≤ length ys → digits n 0 xs ≡ digits n 0 ys → take n xs ≡ take n ys
same_start zero xs ys h k p q e = refl
same_start (suc n) [] ys h k p q e = absurd (omega arith)
same_start (suc n) (x ∷ xs) [] h k p q e = absurd (omega arith)
same_start (suc n) (x ∷ xs) (y ∷ ys) h k p q e =
    let e' : x * 256 ^ n + digits n 0 xs ≡ y * 256 ^ n + digits n 0 ys =
    ap (λ d. x * 256 ^ n + d) (sym (digits-past n 0 x xs)) ∙ e
    ∙ ap (λ d. y * 256 ^ n + d) (digits-past n 0 y ys) in
    let both : (x ≡ y) × (digits n 0 xs ≡ digits n 0 ys) =
    same_first x y (digits n 0 xs) (digits n 0 ys) (256 ^ n)
    (digits-below n 0 xs (λ i. h (suc i))) (digits-below n 0 ys (λ i. k (suc i))) e' in
    ap (λ z. z ∷ take n xs) both.0
    ∙ ap (λ zs. y ∷ zs) (same_start n xs ys (λ i. h (suc i)) (λ i. k (suc i)) (omega arith)
    (omega arith) both.1)

-- after n equal bytes the rest decides
pub after_same_start : (n : ℕ) (xs ys : List ℕ) → n ≤ length xs → n ≤ length ys
    → take n xs ≡ take n ys
    → compare_bytes xs ys ≡ compare_bytes (drop n xs) (drop n ys)
after_same_start zero xs ys p q e = refl
after_same_start (suc n) [] ys p q e = absurd (omega arith)
after_same_start (suc n) (x ∷ xs) [] p q e = absurd (omega arith)
after_same_start (suc n) (x ∷ xs) (y ∷ ys) p q e =
    let first : x ≡ y = cc in
    let rest : take n xs ≡ take n ys = cc in
    ap (λ o. ordering_then o (compare_bytes xs ys)) (cmp_equal x y first)
    ∙ after_same_start n xs ys (omega arith) (omega arith) rest

pub decided : (o p q : Ordering) → (o ≡ Equal → ⊥) → p ≡ ordering_then o q → p ≡ o
decided Less p q h e = e
decided Equal p q h e = absurd (h refl)
decided Greater p q h e = e

digits-take : (n : ℕ) (xs : List ℕ) → digits n 0 xs ≡ digits n 0 (take n xs)
digits-take zero xs = refl
digits-take (suc n) [] = refl
digits-take (suc n) (x ∷ xs) =
    ap (λ d. x * 256 ^ n + d) (digits-past n 0 x xs ∙ digits-take n xs
    ∙ sym (digits-past n 0 x (take n xs)))

-- and back
pub same_words : (n : ℕ) (xs ys : List ℕ) → take n xs ≡ take n ys → digits n 0 xs ≡ digits n 0 ys
same_words n xs ys e = digits-take n xs ∙ ap (λ zs. digits n 0 zs) e ∙ sym (digits-take n ys)

room : (n m : ℕ) (xs : List ℕ) → n + m ≤ length xs → m ≤ length (drop n xs)
room n m xs h = omega (arith, length-drop n xs)

pub later : (n : ℕ) (xs : List ℕ) → AreBytes xs → AreBytes (drop n xs)
later n xs h i = rw (get_or-drop n xs i 0) (h (n + i))

-- words at two offsets are equal where that many bytes are
pub same_bytes_at : (n i j : ℕ) (xs ys : List ℕ) → AreBytes xs → AreBytes ys
    → i + n ≤ length xs → j + n ≤ length ys
    → digits n 0 (drop i xs) ≡ digits n 0 (drop j ys) → take n (drop i xs) ≡ take n (drop j ys)
same_bytes_at n i j xs ys h k p q e =
    same_start n (drop i xs) (drop j ys) (later i xs h) (later j ys k) (room i n xs p)
    (room j n ys q) e

four_digits : (xs : List ℕ) → from_be_bytes w32 (padded 4 xs) ≡ digits 4 0 xs
four_digits xs = omega arith

-- the test of four bytes
pub tells_four : (i j : ℕ) (xs ys : List ℕ) (a b : ℕ) → AreBytes xs → AreBytes ys
    → i + 4 ≤ length xs → j + 4 ≤ length ys
    → a ≡ from_be_bytes w32 (padded 4 (drop i xs)) → b ≡ from_be_bytes w32 (padded 4 (drop j ys))
    → (a ≡ b → take 4 (drop i xs) ≡ take 4 (drop j ys))
    × (take 4 (drop i xs) ≡ take 4 (drop j ys) → a ≡ b)
tells_four i j xs ys a b h k p q d e = (
  (λ s. same_bytes_at 4 i j xs ys h k p q
      (sym (four_digits (drop i xs)) ∙ sym d ∙ s ∙ e ∙ four_digits (drop j ys))),
  (λ s. d ∙ four_digits (drop i xs) ∙ same_words 4 (drop i xs) (drop j ys) s
      ∙ sym (four_digits (drop j ys)) ∙ sym e),
)

eight_digits : (xs : List ℕ) → from_be_bytes w64 (padded 8 xs) ≡ digits 8 0 xs
eight_digits xs = omega arith

-- eight more equal bytes
pub eight_more : (n : ℕ) (xs ys : List ℕ) → AreBytes xs → AreBytes ys
    → n + 8 ≤ length xs → n + 8 ≤ length ys → take n xs ≡ take n ys
    → from_be_bytes w64 (padded 8 (drop n xs)) ≡ from_be_bytes w64 (padded 8 (drop n ys))
    → take (n + 8) xs ≡ take (n + 8) ys
eight_more n xs ys h k p q same e =
    take-add n 8 xs
    ∙ ap (λ zs. zs ++ take 8 (drop n xs)) same
    ∙ ap (λ zs. take n ys ++ zs) (same_bytes_at 8 n n xs ys h k p q
    (sym (eight_digits (drop n xs)) ∙ e ∙ eight_digits (drop n ys)))
    ∙ sym (take-add n 8 ys)

-- a prefix of an equal prefix
pub shorter_start : (m n : ℕ) (xs ys : List ℕ) → m ≤ n → take n xs ≡ take n ys
    → take m xs ≡ take m ys
shorter_start m n xs ys h e = sym (take-take m n xs h) ∙ ap (λ zs. take m zs) e ∙ take-take m n ys h

-- equal up to the last eight bytes, and these too
pub all_same : (n m : ℕ) (xs ys : List ℕ) → AreBytes xs → AreBytes ys → length xs ≡ length ys
    → length xs ≡ m + 8
    → m ≤ n → take n xs ≡ take n ys
    → from_be_bytes w64 (padded 8 (drop m xs)) ≡ from_be_bytes w64 (padded 8 (drop m ys)) → xs ≡ ys
all_same n m xs ys h k l s p e d =
    sym (take_all (m + 8) xs (omega arith))
    ∙ eight_more m xs ys h k (omega arith) (omega arith) (shorter_start m n xs ys p e) d
    ∙ take_all (m + 8) ys (omega arith)

word_first : (xs ys : List ℕ) → AreBytes xs → AreBytes ys → 8 ≤ length xs → 8 ≤ length ys
    → (from_be_bytes w64 (padded 8 xs) ≡ from_be_bytes w64 (padded 8 ys) → ⊥)
    → compare_bytes xs ys ≡ nat_cmp (from_be_bytes w64 (padded 8 xs))
    (from_be_bytes w64 (padded 8 ys))
word_first xs ys h k p q differ =
    decided (nat_cmp (from_be_bytes w64 (padded 8 xs)) (from_be_bytes w64 (padded 8 ys)))
    (compare_bytes xs ys)
    (compare_bytes (drop 8 xs) (drop 8 ys))
    (λ e. differ (ranked (from_be_bytes w64 (padded 8 xs)) (from_be_bytes w64 (padded 8 ys)) Equal
    (sym e)))
    (by_words_and_rests 8 xs ys h k p q
    ∙ ap (λ d. ordering_then (nat_cmp d (digits 8 0 ys)) (compare_bytes (drop 8 xs) (drop 8 ys)))
    (sym (eight_digits xs))
    ∙ ap (λ d. ordering_then (nat_cmp (from_be_bytes w64 (padded 8 xs)) d)
    (compare_bytes (drop 8 xs) (drop 8 ys)))
    (sym (eight_digits ys)))

-- different words decide
pub word_decides : (n : ℕ) (xs ys : List ℕ) → AreBytes xs → AreBytes ys
    → n + 8 ≤ length xs → n + 8 ≤ length ys → take n xs ≡ take n ys
    → (from_be_bytes w64 (padded 8 (drop n xs)) ≡ from_be_bytes w64 (padded 8 (drop n ys)) → ⊥)
    → compare_bytes xs ys
    ≡ nat_cmp (from_be_bytes w64 (padded 8 (drop n xs))) (from_be_bytes w64 (padded 8 (drop n ys)))
word_decides n xs ys h k p q same differ =
    after_same_start n xs ys (omega arith) (omega arith) same
    ∙ word_first (drop n xs) (drop n ys) (later n xs h) (later n ys k) (room n 8 xs p)
    (room n 8 ys q) differ

one_less : {m l n : ℕ} → (suc m ≡ suc n) ⊎ (suc l ≡ suc n) → (m ≡ n) ⊎ (l ≡ n)
one_less (inl h) = inl (omega arith)
one_less (inr h) = inr (omega arith)

-- where the shorter one ends after equal bytes, lengths decide
pub lengths_decide : (n : ℕ) (xs ys : List ℕ) → n ≤ length xs → n ≤ length ys
    → (length xs ≡ n) ⊎ (length ys ≡ n) → take n xs ≡ take n ys
    → compare_bytes xs ys ≡ nat_cmp (length xs) (length ys)
lengths_decide zero [] [] p q s e = sym (cmp_equal 0 0 refl)
lengths_decide zero [] (y ∷ ys) p q s e = sym (cmp_less 0 (suc (length ys)) (omega arith))
lengths_decide zero (x ∷ xs) [] p q s e = sym (cmp_greater (suc (length xs)) 0 (omega arith))
lengths_decide zero (x ∷ xs) (y ∷ ys) p q (inl s) e = absurd (omega arith)
lengths_decide zero (x ∷ xs) (y ∷ ys) p q (inr s) e = absurd (omega arith)
lengths_decide (suc n) [] ys p q s e = absurd (omega arith)
lengths_decide (suc n) (x ∷ xs) [] p q s e = absurd (omega arith)
lengths_decide (suc n) (x ∷ xs) (y ∷ ys) p q s e =
    let first : x ≡ y = cc in
    let rest : take n xs ≡ take n ys = cc in
    ap (λ o. ordering_then o (compare_bytes xs ys)) (cmp_equal x y first)
    ∙ lengths_decide n xs ys (omega arith) (omega arith) (one_less s) rest
    ∙ sym (lengths (length xs) (length ys) (cases_order (length xs) (length ys)))

-- two different words are ordered as the lists are
pub word_answer : (n : ℕ) (xs ys : List ℕ) (r : Ordering) (l m : ℕ) → AreBytes xs → AreBytes ys
    → n + 8 ≤ length xs → n + 8 ≤ length ys → take n xs ≡ take n ys
    → l ≡ from_be_bytes w64 (padded 8 (drop n xs)) → m ≡ from_be_bytes w64 (padded 8 (drop n ys))
    → (l ≡ m → ⊥) → r ≡ nat_cmp l m → r ≡ compare_bytes xs ys
word_answer n xs ys r l m h k p q same d e differ f =
    f ∙ ap (λ z. nat_cmp z m) d
    ∙ ap (λ z. nat_cmp (from_be_bytes w64 (padded 8 (drop n xs))) z) e
    ∙ sym (word_decides n xs ys h k p q same (λ s. differ (d ∙ s ∙ sym e)))

ends_by : (m n k : ℕ) → k ≡ min m n → 8 ≤ m → 8 ≤ n → (m < n) ⊎ (n ≤ m)
    → (m ≡ k - 8 + 8) ⊎ (n ≡ k - 8 + 8)
ends_by m n k e p q (inl h) = inl (omega arith)
ends_by m n k e p q (inr h) = inr (omega arith)

-- the shorter one ends there
pub shorter_ends : (m n k : ℕ) → k ≡ min m n → 8 ≤ m → 8 ≤ n → (m ≡ k - 8 + 8) ⊎ (n ≡ k - 8 + 8)
shorter_ends m n k e p q = ends_by m n k e p q (cases_lt m n)
