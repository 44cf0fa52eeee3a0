-- A view among buffers is the view of its value.
use Rattle.std.proofs.Common.{◌≡◌, ℕ, ◌+◌, ◌<◌, ◌≤◌, nat_le, List, [], ◌∷◌, suc, length, map}
use Rattle.std.proofs.Common.{get_or, take, drop, sym, subst, leb, true, ◌∙◌, ap, arith, inl, inr}
use Rattle.std.proofs.Common.{◌⊎◌, refl}
use Rattle.std.proofs.lemmas.List.{get_or-map, length-map, length-take, length-drop, get_or-take}
use Rattle.std.proofs.lemmas.Bool.{cases_lt, cond-true, cond-false, le-leb, leb-true}
use Rattle.std.proofs.lemmas.Bool.{false_from_ne_true}
use Rattle.vortex_views.specs.declared.view.BinaryView.{BinaryView}
use Rattle.vortex_views.specs.ViewBytes.{view_bytes, view_len, view_offset, view_buffer}
use Rattle.vortex_views.specs.ViewBytes.{inlined_view, inlined_value, padded}
use Rattle.vortex_views.specs.Resolved.{AreViewsIn, IsViewIn, IsViewOf, LiesIn, values_in, value_in}
use Rattle.vortex_views.specs.Resolved.{long_value}
use Rattle.vortex_views.proofs.Layouts.{short_len, short_tail}
use Rattle.vortex_views.specs.ValueWords.{order_prefix_word, order_tail_word}
use Rattle.std.specs.Int.{w32, w64, from_be_bytes, from_le_bytes}

pub view_at : (bufs : List (List ℕ)) (views : List BinaryView) (i : ℕ) (v : BinaryView)
    → AreViewsIn bufs views
    → i < length (values_in bufs views) → v ≡ get_or views i v → IsViewIn bufs (view_bytes v)
view_at bufs views i v h p e =
    let q : i < length views = omega (
      arith,
      length-map views
          (λ w. value_in bufs (view_bytes w)),
    ) in
    let same : get_or (map view_bytes views) i [] ≡ view_bytes v =
    get_or-map view_bytes views i v [] q ∙ ap view_bytes (sym e) in
    subst (IsViewIn bufs) same (h i q)

pub value_at : (bufs : List (List ℕ)) (views : List BinaryView) (i : ℕ) (v : BinaryView)
    → i < length (values_in bufs views) → v ≡ get_or views i v
    → value_in bufs (view_bytes v) ≡ get_or (values_in bufs views) i []
value_at bufs views i v p e =
    let q : i < length views = omega (
      arith,
      length-map views
          (λ w. value_in bufs (view_bytes w)),
    ) in
    ap (λ w. value_in bufs (view_bytes w)) e
    ∙ sym (get_or-map (λ w. value_in bufs (view_bytes w)) views i v [] q)

pub short_in : (bufs : List (List ℕ)) (v : List ℕ) → view_len v ≤ 12
    → value_in bufs v ≡ inlined_value v
short_in bufs v h =
    cond-true (nat_le (view_len v) 12) (inlined_value v) (long_value bufs v)
    (le-leb (view_len v) 12 h)

pub above : (m n : ℕ) → m < n → leb n m ≡ true → ⊥
above m n h e = absurd (omega (arith, leb-true n m e))

pub long_in : (bufs : List (List ℕ)) (v : List ℕ) → 12 < view_len v
    → value_in bufs v ≡ long_value bufs v
long_in bufs v h =
    cond-false (nat_le (view_len v) 12) (inlined_value v) (long_value bufs v)
    (false_from_ne_true (nat_le (view_len v) 12) (above 12 (view_len v) h))

short_length : (n : ℕ) (xs : List ℕ) → n ≤ 12 → length (take n xs) ≤ 12
short_length n xs h = omega (arith, length-take n xs)

view_of_short : (v : List ℕ) → view_len v ≤ 12 → v ≡ inlined_view (inlined_value v)
    → IsViewOf (inlined_value v) v
view_of_short v h e =
    let short : length (inlined_value v) ≤ 12 = short_length (view_len v) (drop 4 v) h in
    record {
      len = ap view_len e ∙ short_len (inlined_value v) short;
      inlined = λ _. e;
      start = λ q. absurd (omega (arith, short, q));
    }

long_length : (n o : ℕ) (xs : List ℕ) → o + n ≤ length xs → n ≡ length (take n (drop o xs))
long_length n o xs h = omega (arith, length-take n (drop o xs), length-drop o xs)

-- the first four of at least four bytes are the first four
four_of_many : (n : ℕ) (xs : List ℕ) → 4 ≤ n → take 4 (take n xs) ≡ take 4 xs
four_of_many (suc (suc (suc (suc n)))) [] h = refl
four_of_many (suc (suc (suc (suc n)))) (a ∷ []) h = refl
four_of_many (suc (suc (suc (suc n)))) (a ∷ b ∷ []) h = refl
four_of_many (suc (suc (suc (suc n)))) (a ∷ b ∷ c ∷ []) h = refl
four_of_many (suc (suc (suc (suc n)))) (a ∷ b ∷ c ∷ d ∷ xs) h = refl
four_of_many n xs h = absurd (omega arith)

view_of_long : (bufs : List (List ℕ)) (v : List ℕ) → 12 < view_len v → LiesIn bufs v
    → IsViewOf (long_value bufs v) v
view_of_long bufs v h l =
    let same : view_len v ≡ length (long_value bufs v) =
    long_length (view_len v) (view_offset v) (get_or bufs (view_buffer v) []) l.lies.within in
    record {
      len = same;
      inlined = λ q. absurd (omega (arith, same, q, h));
      start = λ _. l.lies.start
          ∙ sym (four_of_many (view_len v) (drop (view_offset v) (get_or bufs (view_buffer v) []))
          (omega arith));
    }

by_length : (bufs : List (List ℕ)) (v : List ℕ) → IsViewIn bufs v
    → (12 < view_len v) ⊎ (view_len v ≤ 12)
    → IsViewOf (value_in bufs v) v
by_length bufs v h (inl l) = subst (λ x. IsViewOf x v) (sym (long_in bufs v l))
    (view_of_long bufs v l (h.long l))
by_length bufs v h (inr s) = subst (λ x. IsViewOf x v) (sym (short_in bufs v s))
    (view_of_short v s (h.inlined s))

pub view_of : (bufs : List (List ℕ)) (v : List ℕ) → IsViewIn bufs v → IsViewOf (value_in bufs v) v
view_of bufs v h = by_length bufs v h (cases_lt 12 (view_len v))

pub next_fits : (bufs : List (List ℕ)) (views : List BinaryView) (i : ℕ) (d : BinaryView)
    → i < length views
    → IsViewIn bufs (view_bytes (get_or views i d))
    → IsViewIn bufs (get_or (map view_bytes views) i [])
next_fits bufs views i d q h = subst (IsViewIn bufs) (sym (get_or-map view_bytes views i d [] q)) h

pub misfit : (bufs : List (List ℕ)) (views : List BinaryView) (i : ℕ) (d : BinaryView)
    → i < length views
    → (IsViewIn bufs (view_bytes (get_or views i d)) → ⊥) → AreViewsIn bufs views → ⊥
misfit bufs views i d q bad all =
    bad (subst (IsViewIn bufs) (get_or-map view_bytes views i d [] q) (all i q))

first_at : (i : ℕ) (v w : List ℕ) → i < 4 → take 4 v ≡ take 4 w → get_or v i 0 ≡ get_or w i 0
first_at i v w h e =
    sym (get_or-take 4 v i 0 h) ∙ ap (λ z. get_or z i 0) e ∙ get_or-take 4 w i 0 h

same_prefix : (v w : List ℕ) → take 4 v ≡ take 4 w → from_be_bytes w32 v ≡ order_prefix_word w
same_prefix v w e =
    omega (
      arith,
      first_at 0 v w (omega arith) e,
      first_at 1 v w (omega arith) e,
      first_at 2 v w (omega arith) e,
      first_at 3 v w (omega arith) e,
    )

prefix_by : (value v : List ℕ) → IsViewOf value v → (12 < length value) ⊎ (length value ≤ 12)
    → from_be_bytes w32 (drop 4 v) ≡ order_prefix_word value
prefix_by value v h (inl l) = same_prefix (drop 4 v) value (h.start l)
prefix_by value v h (inr s) = ap (λ z. from_be_bytes w32 (drop 4 z)) (h.inlined s)

-- a view has the first word of its value
pub prefix_of_view : (value v : List ℕ) → IsViewOf value v
    → from_be_bytes w32 (drop 4 v) ≡ order_prefix_word value
prefix_of_view value v h = prefix_by value v h (cases_lt 12 (length value))

same_four : (v w : List ℕ) → take 4 v ≡ take 4 w
    → from_le_bytes w32 v ≡ from_le_bytes w32 (padded 4 w)
same_four v w e =
    omega (
      arith,
      first_at 0 v w (omega arith) e,
      first_at 1 v w (omega arith) e,
      first_at 2 v w (omega arith) e,
      first_at 3 v w (omega arith) e,
    )

four_by : (value v : List ℕ) → IsViewOf value v → (12 < length value) ⊎ (length value ≤ 12)
    → from_le_bytes w32 (drop 4 v) ≡ from_le_bytes w32 (padded 4 value)
four_by value v h (inl l) = same_four (drop 4 v) value (h.start l)
four_by value v h (inr s) = ap (λ z. from_le_bytes w32 (drop 4 z)) (h.inlined s)

-- the same word, in little-endian order
pub four_of_view : (value v : List ℕ) → IsViewOf value v
    → from_le_bytes w32 (drop 4 v) ≡ from_le_bytes w32 (padded 4 value)
four_of_view value v h = four_by value v h (cases_lt 12 (length value))

-- and the second word of a short value
pub tail_of_view : (value v : List ℕ) → IsViewOf value v → view_len v ≤ 12
    → from_be_bytes w64 (drop 8 v) ≡ order_tail_word value
tail_of_view value v h s =
    let short : length value ≤ 12 = omega (arith, h.len) in
    ap (λ z. from_be_bytes w64 (drop 8 z)) (h.inlined short) ∙ short_tail value
