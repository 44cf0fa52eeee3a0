-- The order of values by their words.
use Rattle.std.proofs.Common.{take, Ordering, ◌≡◌, ℕ, ◌+◌, ◌*◌, ◌^◌, ◌<◌, ◌≤◌, List, length, drop}
use Rattle.std.proofs.Common.{sym, ◌∙◌, ap, arith, inl, inr, ◌⊎◌}
use Rattle.std.proofs.lemmas.List.{get_or-drop}
use Rattle.std.proofs.lemmas.Bool.{cases_lt}
use Rattle.std.proofs.lemmas.Cmp.{ranked}
use Rattle.std.proofs.lemmas.Map.Lookups.{exact_bytes}
use Rattle.std.specs.declared.cmp.Ordering.TheVariants.{Equal}
use Rattle.std.specs.Ordering.{nat_cmp, ordering_then}
use Rattle.vortex_views.specs.ValueWords.{compare_bytes, order_prefix_word, order_tail_word}
use Rattle.vortex_views.proofs.Digits.{digits, AreBytes, digits-below, first_decides, cmp_equal}
use Rattle.vortex_views.proofs.ByteOrder.{by_words_and_lengths, by_words_and_rests, then_then}
use Rattle.vortex_views.proofs.ByteOrder.{decided, same_start}

pub prefix_digits : (xs : List ℕ) → order_prefix_word xs ≡ digits 4 0 xs
prefix_digits xs = omega arith

pub tail_digits : (xs : List ℕ) → order_tail_word xs ≡ digits 8 0 (drop 4 xs)
tail_digits xs = omega arith

pub twelve_digits : (xs : List ℕ)
    → digits 12 0 xs ≡ order_prefix_word xs * 256 ^ 8 + order_tail_word xs
twelve_digits xs =
    simp get_or-drop (omega arith)

dropped : (n : ℕ) (xs : List ℕ) → AreBytes xs → AreBytes (drop n xs)
dropped n xs h i = rw (get_or-drop n xs i 0) (h (n + i))

pub twelve : (xs ys : List ℕ) → AreBytes xs → AreBytes ys
    → nat_cmp (digits 12 0 xs) (digits 12 0 ys)
    ≡ ordering_then (nat_cmp (order_prefix_word xs) (order_prefix_word ys))
    (nat_cmp (order_tail_word xs) (order_tail_word ys))
twelve xs ys h k =
    rw (twelve_digits xs, twelve_digits ys)
    (first_decides (order_prefix_word xs) (order_prefix_word ys) (order_tail_word xs)
    (order_tail_word ys) (256 ^ 8)
    (rw (tail_digits xs) (digits-below 8 0 (drop 4 xs) (dropped 4 xs h)))
    (rw (tail_digits ys) (digits-below 8 0 (drop 4 ys) (dropped 4 ys k))))

pub short_order : (xs ys : List ℕ) → AreBytes xs → AreBytes ys
    → (length xs ≤ 12) ⊎ (length ys ≤ 12)
    → compare_bytes xs ys
    ≡ ordering_then (nat_cmp (order_prefix_word xs) (order_prefix_word ys))
    (ordering_then (nat_cmp (order_tail_word xs) (order_tail_word ys))
    (nat_cmp (length xs) (length ys)))
short_order xs ys h k s =
    by_words_and_lengths 12 xs ys h k s
    ∙ ap (λ o. ordering_then o (nat_cmp (length xs) (length ys))) (twelve xs ys h k)
    ∙ then_then (nat_cmp (order_prefix_word xs) (order_prefix_word ys))
    (nat_cmp (order_tail_word xs) (order_tail_word ys)) (nat_cmp (length xs) (length ys))

pub long_order : (xs ys : List ℕ) → AreBytes xs → AreBytes ys
    → 12 ≤ length xs → 12 ≤ length ys
    → compare_bytes xs ys
    ≡ ordering_then (nat_cmp (order_prefix_word xs) (order_prefix_word ys))
    (ordering_then (nat_cmp (order_tail_word xs) (order_tail_word ys))
    (compare_bytes (drop 12 xs) (drop 12 ys)))
long_order xs ys h k p q =
    by_words_and_rests 12 xs ys h k p q
    ∙ ap (λ o. ordering_then o (compare_bytes (drop 12 xs) (drop 12 ys))) (twelve xs ys h k)
    ∙ then_then (nat_cmp (order_prefix_word xs) (order_prefix_word ys))
    (nat_cmp (order_tail_word xs) (order_tail_word ys)) (compare_bytes (drop 12 xs) (drop 12 ys))

prefix_by_size : (xs ys : List ℕ) → AreBytes xs → AreBytes ys
    → (length xs ≤ 12) ⊎ (length ys ≤ 12) ⊎ ((12 ≤ length xs) × (12 ≤ length ys))
    → (nat_cmp (order_prefix_word xs) (order_prefix_word ys) ≡ Equal → ⊥)
    → compare_bytes xs ys ≡ nat_cmp (order_prefix_word xs) (order_prefix_word ys)
prefix_by_size xs ys h k (inl s) differ = decided _ _ _ differ (short_order xs ys h k (inl s))
prefix_by_size xs ys h k (inr (inl s)) differ = decided _ _ _ differ (short_order xs ys h k (inr s))
prefix_by_size xs ys h k (inr (inr s)) differ = decided _ _ _ differ (long_order xs ys h k s.0 s.1)

sizes : (m n : ℕ) → (m < 12) ⊎ (12 ≤ m) → (n < 12) ⊎ (12 ≤ n)
    → (m ≤ 12) ⊎ (n ≤ 12) ⊎ ((12 ≤ m) × (12 ≤ n))
sizes m n (inl h) k = inl (omega arith)
sizes m n (inr h) (inl k) = inr (inl (omega arith))
sizes m n (inr h) (inr k) = inr (inr (h, k))

-- different first words decide
pub prefix_order : (xs ys : List ℕ) → AreBytes xs → AreBytes ys
    → (nat_cmp (order_prefix_word xs) (order_prefix_word ys) ≡ Equal → ⊥)
    → compare_bytes xs ys ≡ nat_cmp (order_prefix_word xs) (order_prefix_word ys)
prefix_order xs ys h k differ =
    prefix_by_size xs ys h k (sizes (length xs) (length ys) (cases_lt (length xs) 12)
    (cases_lt (length ys) 12)) differ

cmp_differ : (m n : ℕ) → (m ≡ n → ⊥) → nat_cmp m n ≡ Equal → ⊥
cmp_differ m n h e = h (ranked m n Equal (sym e))

pub different_prefixes : (xs ys : List ℕ) → AreBytes xs → AreBytes ys
    → (order_prefix_word xs ≡ order_prefix_word ys → ⊥)
    → compare_bytes xs ys ≡ nat_cmp (order_prefix_word xs) (order_prefix_word ys)
different_prefixes xs ys h k differ =
    prefix_order xs ys h k (cmp_differ (order_prefix_word xs) (order_prefix_word ys) differ)

decided_by : (o p q : Ordering) → o ≡ Equal → p ≡ ordering_then o q → p ≡ q
decided_by o p q e f = f ∙ ap (λ r. ordering_then r q) e

tail_by_size : (xs ys : List ℕ) → AreBytes xs → AreBytes ys
    → (length xs ≤ 12) ⊎ (length ys ≤ 12) ⊎ ((12 ≤ length xs) × (12 ≤ length ys))
    → nat_cmp (order_prefix_word xs) (order_prefix_word ys) ≡ Equal
    → (nat_cmp (order_tail_word xs) (order_tail_word ys) ≡ Equal → ⊥)
    → compare_bytes xs ys ≡ nat_cmp (order_tail_word xs) (order_tail_word ys)
tail_by_size xs ys h k (inl s) e differ =
    decided _ _ _ differ (decided_by _ _ _ e (short_order xs ys h k (inl s)))
tail_by_size xs ys h k (inr (inl s)) e differ =
    decided _ _ _ differ (decided_by _ _ _ e (short_order xs ys h k (inr s)))
tail_by_size xs ys h k (inr (inr s)) e differ =
    decided _ _ _ differ (decided_by _ _ _ e (long_order xs ys h k s.0 s.1))

-- after equal first words, different second words decide
pub different_tails : (xs ys : List ℕ) → AreBytes xs → AreBytes ys
    → order_prefix_word xs ≡ order_prefix_word ys
    → (order_tail_word xs ≡ order_tail_word ys → ⊥)
    → compare_bytes xs ys ≡ nat_cmp (order_tail_word xs) (order_tail_word ys)
different_tails xs ys h k e differ =
    tail_by_size xs ys h k (sizes (length xs) (length ys) (cases_lt (length xs) 12)
    (cases_lt (length ys) 12))
    (cmp_equal (order_prefix_word xs) (order_prefix_word ys) e)
    (cmp_differ (order_tail_word xs) (order_tail_word ys) differ)

-- after equal words of a short value, the lengths decide
pub short_lengths : (xs ys : List ℕ) → AreBytes xs → AreBytes ys
    → order_prefix_word xs ≡ order_prefix_word ys → order_tail_word xs ≡ order_tail_word ys
    → (length xs ≤ 12) ⊎ (length ys ≤ 12) → compare_bytes xs ys ≡ nat_cmp (length xs) (length ys)
short_lengths xs ys h k e f s =
    decided_by (nat_cmp (order_tail_word xs) (order_tail_word ys)) _ _
    (cmp_equal (order_tail_word xs) (order_tail_word ys) f)
    (decided_by (nat_cmp (order_prefix_word xs) (order_prefix_word ys)) _ _
    (cmp_equal (order_prefix_word xs) (order_prefix_word ys) e) (short_order xs ys h k s))

-- equal words of longer values come from equal bytes
pub long_starts : (xs ys : List ℕ) → AreBytes xs → AreBytes ys
    → order_prefix_word xs ≡ order_prefix_word ys → order_tail_word xs ≡ order_tail_word ys
    → 12 ≤ length xs → 12 ≤ length ys → take 12 xs ≡ take 12 ys
long_starts xs ys h k e f p q =
    same_start 12 xs ys h k p q
    (twelve_digits xs ∙ ap (λ z. z * 256 ^ 8 + order_tail_word xs) e
    ∙ ap (λ z. order_prefix_word ys * 256 ^ 8 + z) f ∙ sym (twelve_digits ys))

-- short values with equal lengths and words are equal
pub short_equal : (xs ys : List ℕ) → AreBytes xs → AreBytes ys → length xs ≡ length ys
    → length xs ≤ 12
    → order_prefix_word xs ≡ order_prefix_word ys → order_tail_word xs ≡ order_tail_word ys
    → xs ≡ ys
short_equal xs ys h k l s e f =
    exact_bytes xs ys (short_lengths xs ys h k e f (inl s) ∙ cmp_equal (length xs) (length ys) l)

pub long_alike : (xs ys : List ℕ) → AreBytes xs → AreBytes ys → 4 ≤ length xs → 4 ≤ length ys
    → order_prefix_word xs ≡ order_prefix_word ys → take 4 xs ≡ take 4 ys
long_alike xs ys h k p q e =
    same_start 4 xs ys h k p q (sym (prefix_digits xs) ∙ e ∙ prefix_digits ys)
