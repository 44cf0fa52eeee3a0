-- Reading the 16 bytes of a view gives back what they were made of.
use Rattle.std.proofs.Common.{◌≡◌, ℕ, zero, suc, ◌+◌, ◌*◌, ◌^◌, ◌<◌, ◌≤◌, List, [], ◌∷◌, ◌++◌}
use Rattle.std.proofs.Common.{get_or, length, take, drop, refl, sym, ◌∙◌, ap, arith}
use Rattle.std.proofs.lemmas.List.{get_or-drop, ext_get_or}
use Rattle.std.proofs.lemmas.List.FromFn.{get_or-map-range_with_len, length-map-range_with_len}
use Rattle.std.proofs.lemmas.Nat.{from_le_bytes-to_le_bytes_4, le_bytes_8}
use Rattle.std.specs.Int.{w32, w64, w128, to_le_bytes, from_le_bytes, from_be_bytes}
use Rattle.vortex_views.specs.ViewBytes.{padded, inlined_view, long_view, view_len, view_buffer}
use Rattle.vortex_views.specs.ViewBytes.{view_offset, inlined_value}
use Rattle.vortex_views.specs.ValueWords.{head_word, order_tail_word}
use Rattle.vortex_views.proofs.Digits.{AreBytes, same_first}

pub short_len : (value : List ℕ) → length value ≤ 12 → view_len (inlined_view value) ≡ length value
short_len value h = from_le_bytes-to_le_bytes_4 (length value) (omega arith)

pub long_len : (value : List ℕ) (b o : ℕ) → length value ≤ 4294967295
    → view_len (long_view (length value) value b o) ≡ length value
long_len value b o h = from_le_bytes-to_le_bytes_4 (length value) (omega arith)

pub long_buffer : (n : ℕ) (value : List ℕ) (b o : ℕ) → b < 2 ^ 32
    → view_buffer (long_view n value b o) ≡ b
long_buffer n value b o h = from_le_bytes-to_le_bytes_4 b h

pub long_offset : (n : ℕ) (value : List ℕ) (b o : ℕ) → o < 2 ^ 32
    → view_offset (long_view n value b o) ≡ o
long_offset n value b o h = from_le_bytes-to_le_bytes_4 o h

pub short_tail : (value : List ℕ)
    → from_be_bytes w64 (drop 8 (inlined_view value)) ≡ order_tail_word value
short_tail value = simp get_or-drop refl

take_12 : (value : List ℕ) → length value ≤ 12 → take (length value) (padded 12 value) ≡ value
take_12 [] h = refl
take_12 (a ∷ []) h = refl
take_12 (a ∷ b ∷ []) h = refl
take_12 (a ∷ b ∷ c ∷ []) h = refl
take_12 (a ∷ b ∷ c ∷ d ∷ []) h = refl
take_12 (a ∷ b ∷ c ∷ d ∷ e ∷ []) h = refl
take_12 (a ∷ b ∷ c ∷ d ∷ e ∷ f ∷ []) h = refl
take_12 (a ∷ b ∷ c ∷ d ∷ e ∷ f ∷ g ∷ []) h = refl
take_12 (a ∷ b ∷ c ∷ d ∷ e ∷ f ∷ g ∷ i ∷ []) h = refl
take_12 (a ∷ b ∷ c ∷ d ∷ e ∷ f ∷ g ∷ i ∷ j ∷ []) h = refl
take_12 (a ∷ b ∷ c ∷ d ∷ e ∷ f ∷ g ∷ i ∷ j ∷ k ∷ []) h = refl
take_12 (a ∷ b ∷ c ∷ d ∷ e ∷ f ∷ g ∷ i ∷ j ∷ k ∷ l ∷ []) h = refl
take_12 (a ∷ b ∷ c ∷ d ∷ e ∷ f ∷ g ∷ i ∷ j ∷ k ∷ l ∷ m ∷ []) h = refl
take_12 (a ∷ b ∷ c ∷ d ∷ e ∷ f ∷ g ∷ i ∷ j ∷ k ∷ l ∷ m ∷ n ∷ xs) h = absurd (omega arith)

pub short_value : (value : List ℕ) → length value ≤ 12 → inlined_value (inlined_view value) ≡ value
short_value value h =
    ap (λ n. take n (padded 12 value)) (short_len value h) ∙ take_12 value h

head_bytes : (value : List ℕ) → AreBytes value → length value ≤ 4294967295
    → AreBytes (to_le_bytes w32 (length value) ++ padded 4 value)
head_bytes value h p zero = omega arith
head_bytes value h p (suc zero) = omega arith
head_bytes value h p (suc (suc zero)) = omega arith
head_bytes value h p (suc (suc (suc zero))) = omega arith
head_bytes value h p (suc (suc (suc (suc zero)))) = h 0
head_bytes value h p (suc (suc (suc (suc (suc zero))))) = h 1
head_bytes value h p (suc (suc (suc (suc (suc (suc zero)))))) = h 2
head_bytes value h p (suc (suc (suc (suc (suc (suc (suc zero))))))) = h 3
head_bytes value h p (suc (suc (suc (suc (suc (suc (suc (suc i)))))))) = omega arith

pub head_to_bytes : (value : List ℕ) → AreBytes value → length value ≤ 4294967295
    → to_le_bytes w64 (head_word value) ≡ to_le_bytes w32 (length value) ++ padded 4 value
head_to_bytes value h p =
    le_bytes_8 (to_le_bytes w32 (length value) ++ padded 4 value) (head_word value) refl
    (head_bytes value h p) refl

pub same_heads : (a b : List ℕ) → AreBytes a → AreBytes b → length a ≤ 4294967295
    → length b ≤ 4294967295
    → head_word a ≡ head_word b → (length a ≡ length b) × (padded 4 a ≡ padded 4 b)
same_heads a b h k p q e =
    let same : (to_le_bytes w32 (length a) ++ padded 4 a)
    ≡ (to_le_bytes w32 (length b) ++ padded 4 b) =
    sym (head_to_bytes a h p) ∙ ap (λ n. to_le_bytes w64 n) e ∙ head_to_bytes b k q in (
      sym (from_le_bytes-to_le_bytes_4 (length a) (omega arith))
          ∙ ap (λ v. from_le_bytes w32 v) same
          ∙ from_le_bytes-to_le_bytes_4 (length b) (omega arith),
      ap (λ v. drop 4 v) same,
    )

full : (n : ℕ) (v : List ℕ) → length v ≡ n → v ≡ padded n v
full n v e =
    ext_get_or 0 v (padded n v) (e ∙ sym (length-map-range_with_len (λ i. get_or v i 0) 0 n))
    (λ i h. sym (get_or-map-range_with_len (λ k. get_or v k 0) 0 n i i 0 (omega arith)
    (omega arith)))

pub eight : (v : List ℕ) → AreBytes v → AreBytes (padded 8 v)
eight v h zero = h 0
eight v h (suc zero) = h 1
eight v h (suc (suc zero)) = h 2
eight v h (suc (suc (suc zero))) = h 3
eight v h (suc (suc (suc (suc zero)))) = h 4
eight v h (suc (suc (suc (suc (suc zero))))) = h 5
eight v h (suc (suc (suc (suc (suc (suc zero)))))) = h 6
eight v h (suc (suc (suc (suc (suc (suc (suc zero))))))) = h 7
eight v h (suc (suc (suc (suc (suc (suc (suc (suc i)))))))) = omega arith

-- equal words come from equal bytes
pub same_word : (v w : List ℕ) → AreBytes v → AreBytes w → from_le_bytes w64 v ≡ from_le_bytes w64 w
    → padded 8 v ≡ padded 8 w
same_word v w h k e =
    sym (le_bytes_8 (padded 8 v) (from_le_bytes w64 v) refl (eight v h) refl)
    ∙ ap (λ n. to_le_bytes w64 n) e
    ∙ le_bytes_8 (padded 8 w) (from_le_bytes w64 w) refl (eight w k) refl

two_words : (v : List ℕ) → length v ≡ 16 → v ≡ padded 8 v ++ padded 8 (drop 8 v)
two_words v e = full 16 v e ∙ simp get_or-drop refl

later_bytes : (n : ℕ) (v : List ℕ) → AreBytes v → AreBytes (drop n v)
later_bytes n v h i = rw (get_or-drop n v i 0) (h (n + i))

pub same_views : (v w : List ℕ) → length v ≡ 16 → length w ≡ 16 → AreBytes v → AreBytes w
    → from_le_bytes w64 v ≡ from_le_bytes w64 w
    → from_le_bytes w64 (drop 8 v) ≡ from_le_bytes w64 (drop 8 w) → v ≡ w
same_views v w p q h k d e =
    two_words v p
    ∙ ap (λ bs. bs ++ padded 8 (drop 8 v)) (same_word v w h k d)
    ∙ ap (λ bs. padded 8 w ++ bs) (same_word (drop 8 v) (drop 8 w) (later_bytes 8 v h)
    (later_bytes 8 w k) e)
    ∙ sym (two_words w q)

word_below : (v : List ℕ) → AreBytes v → from_le_bytes w64 v < 256 ^ 8
word_below v h = omega (arith, h 0, h 1, h 2, h 3, h 4, h 5, h 6, h 7)

whole : (v : List ℕ)
    → from_le_bytes w128 v ≡ from_le_bytes w64 (drop 8 v) * 256 ^ 8 + from_le_bytes w64 v
whole v = simp get_or-drop (omega arith)

pub same_wholes : (v w : List ℕ) → length v ≡ 16 → length w ≡ 16 → AreBytes v → AreBytes w
    → from_le_bytes w128 v ≡ from_le_bytes w128 w → v ≡ w
same_wholes v w p q h k e =
    let both = same_first (from_le_bytes w64 (drop 8 v)) (from_le_bytes w64 (drop 8 w))
    (from_le_bytes w64 v) (from_le_bytes w64 w) (256 ^ 8) (word_below v h) (word_below w k)
    (sym (whole v) ∙ e ∙ whole w) in
    same_views v w p q h k both.1 both.0
