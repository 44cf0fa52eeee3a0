-- Bits of bytes of which a part has been written.
use Rattle.std.proofs.Common.{◌≡◌, ◌⊎◌, inl, inr, ℕ, ◌+◌, ◌-◌, ◌*◌, ◌/◌, ◌%◌, ◌^◌, ◌<◌, ◌≤◌, Bool}
use Rattle.std.proofs.Common.{List, length, take, drop}
use Rattle.std.proofs.Common.{refl, sym, ap, ◌∙◌, arith}
use Rattle.std.proofs.lemmas.List.{get_or-take, drop-drop}
use Rattle.std.proofs.lemmas.Slice.{drop-put_mid}
use borrow.Rule.Slice.PartMut.{put_mid}
use Rattle.vortex_bits.specs.Bits.{bit, bit_of}
use Rattle.std.specs.Int.{w64, to_le_bytes}
use Rattle.vortex_bits.proofs.Opened.{bit_of_rest}
use Rattle.vortex_bits.proofs.BitsOfBytes.{to_le_bytes_bits}

pub bit_of_first_part : (bytes : List ℕ) (k p : ℕ) → p / 8 < k
    → bit_of (take k bytes) p ≡ bit_of bytes p
bit_of_first_part bytes k p h = ap (λ n. bit n (p % 8)) (get_or-take k bytes (p / 8) 0 h)

-- bits before the place where bytes were written
pub bit_before : (old new : List ℕ) (at p : ℕ) → take at new ≡ take at old → p < 8 * at
    → bit_of new p ≡ bit_of old p
bit_before old new at p same h =
    sym (bit_of_first_part new at p (omega arith)) ∙ ap (λ (bs : List ℕ). bit_of bs p) same
    ∙ bit_of_first_part old at p (omega arith)

-- bits of the bytes that were written there
pub bit_here : (new written : List ℕ) (at n j : ℕ) → take n (drop at new) ≡ take n written
    → j < 8 * n → bit_of new (8 * at + j) ≡ bit_of written j
bit_here new written at n j same h =
    sym (bit_of_rest new (drop at new) at j refl)
    ∙ sym (bit_of_first_part (drop at new) n j (omega arith))
    ∙ ap (λ (bs : List ℕ). bit_of bs j) same
    ∙ bit_of_first_part written n j (omega arith)

pub drop_further : {A : Type 0} (xs ys : List A) (a b : ℕ) → a ≤ b → drop a xs ≡ drop a ys
    → drop b xs ≡ drop b ys
drop_further xs ys a b le same =
    let whole : a + (b - a) ≡ b = omega arith in
    sym (drop-drop (b - a) a xs ∙ ap (λ n. drop n xs) whole)
    ∙ ap (drop (b - a)) same
    ∙ drop-drop (b - a) a ys ∙ ap (λ n. drop n ys) whole

cases : (m n : ℕ) → (m < n) ⊎ (n ≤ m)
cases m n = grind arith

module _ (row : ℕ → Bool) (old new : List ℕ) (k n count word : ℕ) (fits : word < 2 ^ 64)
    (few : count ≤ 8 * n) (so_far : (i : ℕ) → i < 64 * k → bit_of old i ≡ row i)
    (before : take (8 * k) new ≡ take (8 * k) old)
    (here : take n (drop (8 * k) new) ≡ take n (to_le_bytes w64 word))
    (bits : (j : ℕ) → j < count → bit word j ≡ row (64 * k + j)) where
  -- bits that are written behind those of so many words
  more_by : (i : ℕ) → i < 64 * k + count → (i < 64 * k) ⊎ (64 * k ≤ i) → bit_of new i ≡ row i
  more_by i lt (inl first) = bit_before old new (8 * k) i before (omega arith) ∙ so_far i first
  more_by i lt (inr next) =
      let place : 8 * (8 * k) + (i - 64 * k) ≡ i = omega arith in
      let back : 64 * k + (i - 64 * k) ≡ i = omega arith in
      ap (bit_of new) (sym place)
      ∙ bit_here new (to_le_bytes w64 word) (8 * k) n (i - 64 * k) here (omega arith)
      ∙ to_le_bytes_bits word fits (i - 64 * k)
      ∙ bits (i - 64 * k) (omega arith)
      ∙ ap row back

  pub more_bits : (i : ℕ) → i < 64 * k + count → bit_of new i ≡ row i
  more_bits i lt = more_by i lt (cases i (64 * k))

-- what lies behind a part that is written
pub behind_part : (xs ys bs : List ℕ) (at : ℕ) → at + length bs ≤ length xs → ys ≡ bs
    → drop (at + length bs) (put_mid at (at + length bs - at) xs ys) ≡ drop (at + length bs) xs
behind_part xs ys bs at room e =
    drop-put_mid at (at + length bs - at) xs ys (at + length bs) (omega arith) (omega arith)
    (omega (arith, ap length e))
