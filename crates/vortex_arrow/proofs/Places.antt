-- The places at which a test gives true, one place more at a time.
use Rattle.std.proofs.Common.{◌≡◌, ℕ, zero, suc, ◌+◌, ◌-◌, ◌<◌, ◌≤◌, Bool, true, false, cond, List, []}
use Rattle.std.proofs.Common.{◌∷◌, ◌++◌, length, refl, sym, ap, ◌∙◌, arith, map, append_assoc, ℤ}
use Rattle.std.proofs.Common.{pos, take, set}
use Rattle.std.specs.List.{filter, range_with_len}
use Rattle.std.proofs.lemmas.List.{map-id, append-nil, length_push, map_push, take_more_set}
use Rattle.std.proofs.lemmas.List.FromFn.{filter_of_map_range_with_len_more}
use Rattle.vortex_arrow.specs.Written.{places}

module _ (test : ℕ → Bool) where
  pub no_places : places test 0 ≡ []
  unfolding places
  no_places = refl

  one_more : (n : ℕ) → places test (n + 1) ≡ places test n ++ cond (test n) (n ∷ []) []
  unfolding places
  one_more n =
      ap (filter test) (sym (map-id (range_with_len 0 (n + 1))))
      ∙ filter_of_map_range_with_len_more test (λ i. i) 0 n n (omega arith)
      ∙ ap (λ xs. filter test xs ++ cond (test n) (n ∷ []) []) (map-id (range_with_len 0 n))

  pub next_place : (n : ℕ) → test n ≡ true → places test (n + 1) ≡ places test n ++ n ∷ []
  next_place n h = one_more n ∙ ap (λ b. places test n ++ cond b (n ∷ []) []) h

  pub next_none : (n : ℕ) → test n ≡ false → places test (n + 1) ≡ places test n
  next_none n h =
      one_more n ∙ ap (λ b. places test n ++ cond b (n ∷ []) []) h ∙ append-nil (places test n)

  -- there are no more of them where the test gives false
  further : (n d : ℕ) → ((i : ℕ) → n ≤ i → i < n + d → test i ≡ false)
      → places test (n + d) ≡ places test n
  further n zero none =
      let same : n + 0 ≡ n = omega arith in
      ap (places test) same
  further n (suc d) none =
      let same : n + suc d ≡ n + d + 1 = omega arith in
      ap (places test) same
      ∙ next_none (n + d) (none (n + d) (omega arith) (omega arith))
      ∙ further n d (λ i le lt. none i le (omega (arith, lt)))

  pub none_between : (n m : ℕ) → n ≤ m → ((i : ℕ) → n ≤ i → i < m → test i ≡ false)
      → places test m ≡ places test n
  none_between n m le none =
      let same : n + (m - n) ≡ m = omega arith in
      ap (places test) (sym same)
      ∙ further n (m - n) (λ i from lt. none i from (omega (arith, same, lt)))

  pub none_before : (n : ℕ) → ((i : ℕ) → i < n → test i ≡ false) → places test n ≡ []
  none_before n none = none_between 0 n (omega arith) (λ i from lt. none i lt) ∙ no_places

  grows_by : (n : ℕ) (b : Bool) → test n ≡ b
      → (length (places test n) ≤ length (places test (n + 1)))
      × (length (places test (n + 1)) ≤ length (places test n) + 1)
  grows_by n true h =
      omega (arith, ap length (next_place n h), length_push (places test n) n)
  grows_by n false h = omega (arith, ap length (next_none n h))

  grows : (n d : ℕ) → length (places test n) ≤ length (places test (n + d))
  grows n zero =
      let same : n + 0 ≡ n = omega arith in
      omega (arith, ap (λ m. length (places test m)) same)
  grows n (suc d) =
      let same : n + suc d ≡ n + d + 1 = omega arith in
      omega (
        arith,
        ap (λ m. length (places test m)) same,
        grows n d,
        grows_by (n + d) (test (n + d)) refl,
      )

  pub fewer_before : (n m : ℕ) → n ≤ m → length (places test n) ≤ length (places test m)
  fewer_before n m le =
      let same : n + (m - n) ≡ m = omega arith in
      omega (arith, ap (λ k. length (places test k)) same, grows n (m - n))

  pub at_most : (n : ℕ) → length (places test n) ≤ n
  at_most zero = omega (arith, ap length no_places)
  at_most (suc n) =
      let same : suc n ≡ n + 1 = omega arith in
      omega (
        arith,
        ap (λ m. length (places test m)) same,
        grows_by n (test n) refl,
        at_most n,
      )

  -- a place at which it gives true is one of those
  pub next_there : (n m : ℕ) → n < m → test n ≡ true
      → length (places test n) < length (places test m)
  next_there n m lt h =
      omega (
        arith,
        ap length (next_place n h),
        length_push (places test n) n,
        fewer_before (n + 1) m (omega arith),
      )

-- from a place on, two tests give the same
module _ (test part : ℕ → Bool) (from : ℕ) where
  places_on : (n : ℕ) (b : Bool) → part n ≡ b → part n ≡ test (from + n)
      → places test (from + n) ≡ places test from ++ map (λ j. from + j) (places part n)
      → places test (from + n + 1)
      ≡ places test from ++ map (λ j. from + j) (places part (n + 1))
  places_on n true is same so_far =
      next_place test (from + n) (sym same ∙ is)
      ∙ ap (λ xs. xs ++ (from + n) ∷ []) so_far
      ∙ append_assoc (places test from) (map (λ j. from + j) (places part n)) ((from + n) ∷ [])
      ∙ ap (λ xs. places test from ++ xs)
      (sym (map_push (λ (j : ℕ). from + j) (places part n) n)
      ∙ ap (map (λ (j : ℕ). from + j)) (sym (next_place part n is)))
  places_on n false is same so_far =
      next_none test (from + n) (sym same ∙ is)
      ∙ so_far
      ∙ ap (λ xs. places test from ++ map (λ j. from + j) xs) (sym (next_none part n is))

  pub places_from : (n : ℕ) → ((j : ℕ) → j < n → part j ≡ test (from + j))
      → places test (from + n) ≡ places test from ++ map (λ j. from + j) (places part n)
  places_from zero same =
      let none : from + 0 ≡ from = omega arith in
      ap (places test) none
      ∙ sym (append-nil (places test from))
      ∙ ap (λ xs. places test from ++ map (λ j. from + j) xs) (sym (no_places part))
  places_from (suc n) same =
      let more : from + suc n ≡ from + n + 1 = omega arith in
      let one : suc n ≡ n + 1 = omega arith in
      ap (places test) more
      ∙ places_on n (part n) refl (same n (omega arith))
      (places_from n (λ j lt. same j (omega (arith, lt))))
      ∙ ap (λ k. places test from ++ map (λ j. from + j) (places part k)) (sym one)

-- the number of one place more is written
pub placed_more : {A : Type 0} (f : A → ℤ) (xs : List A) (end : ℕ) (y : A) (before : List ℤ)
    (first t : ℕ) (ps qs : List ℕ) → end < length xs
    → map f (take end xs) ≡ before ++ map (λ j. pos (first + j)) ps → f y ≡ pos (first + t)
    → qs ≡ ps ++ t ∷ []
    → map f (take (end + 1) (set xs end y)) ≡ before ++ map (λ j. pos (first + j)) qs
placed_more f xs end y before first t ps qs within so_far is more =
    ap (map f) (take_more_set xs end y within)
    ∙ map_push f (take end xs) y
    ∙ (λ j. so_far j ++ is j ∷ [])
    ∙ append_assoc before (map (λ (j : ℕ). pos (first + j)) ps) (pos (first + t) ∷ [])
    ∙ ap (λ (zs : List ℤ). before ++ zs)
    (sym (map_push (λ (j : ℕ). pos (first + j)) ps t)
    ∙ ap (map (λ (j : ℕ). pos (first + j))) (sym more))

-- two tests that give the same
pub same_places : (test part : ℕ → Bool) (n : ℕ) → ((i : ℕ) → i < n → test i ≡ part i)
    → places test n ≡ places part n
same_places test part zero same = no_places test ∙ sym (no_places part)
same_places test part (suc n) same =
    let more : suc n ≡ n + 1 = omega arith in
    let so_far = same_places test part n (λ i lt. same i (omega (arith, lt))) in
    ap (places test) more
    ∙ one_more test n
    ∙ (λ k. so_far k ++ cond (same n (omega arith) k) (n ∷ []) [])
    ∙ sym (one_more part n)
    ∙ ap (places part) (sym more)
