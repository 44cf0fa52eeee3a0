-- What tests of words mean for values.
use Rattle.std.proofs.Common.{◌≡◌, ℕ, ◌+◌, ◌-◌, ◌*◌, ◌/◌, ◌^◌, ◌<◌, ◌≤◌, ◌&&◌, Bool, List, ◌++◌}
use Rattle.std.proofs.Common.{true, false, take, drop, length, sym, ◌∙◌, ap, subst, arith, nat_eq}
use Rattle.std.proofs.Common.{leb, refl}
use Rattle.std.proofs.lemmas.Bool.{true≢false, eq-eqb, eqb-true, leb-true, le-leb}
use Rattle.std.proofs.lemmas.Bool.Decides.{same_from_decides, Decides-and, Decides-eqb}
use Rattle.std.proofs.lemmas.List.{get_or-drop, take_all, take-take, length-drop, length-take}
use Rattle.std.proofs.lemmas.List.{drop-take}
use Rattle.std.proofs.lemmas.Nat.{from_le_bytes-to_le_bytes_4, le_bytes_8}
use Rattle.std.proofs.lemmas.Slice.Eq.{bytes_eq-Decides}
use Rattle.std.proofs.Math.Seq.{take-add}
use Rattle.std.specs.Bool.{Decides}
use Rattle.std.specs.Int.{w32, w64, w128, to_le_bytes, from_le_bytes, from_be_bytes}
use Rattle.std.specs.List.{starts_with, ends_with}
use Rattle.std.specs.Prelude.{◌↔◌, IsTrue}
use Rattle.std.specs.Str.{bytes_eq}
use Rattle.vortex_views.specs.ViewBytes.{padded, view_len, inlined_view, inlined_value}
use Rattle.vortex_views.specs.ValueWords.{head_word, order_prefix_word, order_tail_word}
use Rattle.vortex_views.specs.Resolved.{IsViewOf}
use Rattle.vortex_views.proofs.Digits.{AreBytes}
use Rattle.vortex_views.proofs.ByteOrder.{same_words, later}
use Rattle.vortex_views.proofs.FirstBytes.{same_first_bytes, same_first_words}
use Rattle.vortex_views.proofs.LastBytes.{same_ends}
use Rattle.vortex_views.proofs.Layouts.{short_len, short_value, head_to_bytes, eight}
use Rattle.vortex_views.proofs.Resolving.{prefix_of_view, four_of_view}
use Rattle.vortex_views.proofs.WordOrder.{prefix_digits, tail_digits}

-- a value is a short literal exactly where the views are equal
pub short_whole : (value v literal : List ℕ) (b : Bool) → IsViewOf value v
    → length literal ≤ 12 → (IsTrue b ↔ (v ≡ inlined_view literal)) → b ≡ bytes_eq literal value
short_whole value v literal b h short told =
    same_from_decides b (bytes_eq literal value) (
      λ yes. is (told.0 yes),
      λ same. told.1 (h.inlined (omega (arith, ap length same)) ∙ ap inlined_view (sym same)),
    )
    (bytes_eq-Decides literal value)
  where
    is : v ≡ inlined_view literal → literal ≡ value
    is e =
        let len : length value ≡ length literal =
        sym h.len ∙ ap view_len e ∙ short_len literal short in
        let low : length value ≤ 12 = omega arith in
        sym (short_value literal short)
        ∙ ap inlined_value (sym e ∙ h.inlined low)
        ∙ short_value value low

-- a head that is a literal's
pub heads_tell : (v literal : List ℕ) → AreBytes v → AreBytes literal
    → length literal ≤ 4294967295 → from_le_bytes w64 v ≡ head_word literal
    → (view_len v ≡ length literal) × (from_be_bytes w32 (drop 4 v) ≡ order_prefix_word literal)
heads_tell v literal h k most e = (
  ap (λ w. from_le_bytes w32 w) same ∙ from_le_bytes-to_le_bytes_4 (length literal) (omega arith),
  prefix v ∙ ap (λ w. from_be_bytes w32 (drop 4 w)) same,
)
  where
    same : padded 8 v ≡ to_le_bytes w32 (length literal) ++ padded 4 literal
    same =
        sym (le_bytes_8 (padded 8 v) (from_le_bytes w64 v) refl (eight v h) refl)
        ∙ ap (λ n. to_le_bytes w64 n) e
        ∙ head_to_bytes literal k most

    prefix : (w : List ℕ) → from_be_bytes w32 (drop 4 w) ≡ from_be_bytes w32 (drop 4 (padded 8 w))
    prefix w = simp get_or-drop refl

split_head : (v : List ℕ)
    → from_le_bytes w64 v ≡ from_le_bytes w32 (drop 4 v) * 4294967296 + view_len v
split_head v = simp get_or-drop (omega arith)

-- a view's head is its value's
pub head_of_view : (value v : List ℕ) → IsViewOf value v → length value ≤ 4294967295
    → from_le_bytes w64 v ≡ head_word value
head_of_view value v h most =
    split_head v
    ∙ ap (λ z. z * 4294967296 + view_len v) (four_of_view value v h)
    ∙ ap (λ z. from_le_bytes w32 (padded 4 value) * 4294967296 + z)
    (h.len ∙ sym (from_le_bytes-to_le_bytes_4 (length value) (omega arith)))
    ∙ sym (split_head (to_le_bytes w32 (length value) ++ padded 4 value))

-- a value with another head is not the literal
pub other_heads : (value v literal : List ℕ) → IsViewOf value v → length literal ≤ 4294967295
    → (from_le_bytes w64 v ≡ head_word literal → ⊥) → false ≡ bytes_eq literal value
other_heads value v literal h most differ =
    same_from_decides false (bytes_eq literal value) (
      λ (yes : false ≡ true). absurd (true≢false (sym yes)),
      λ (same : literal ≡ value).
          absurd (differ (head_of_view value v h (omega (arith, ap length same))
          ∙ ap head_word (sym same))),
    )
    (bytes_eq-Decides literal value)

-- a value with a literal's head has its length and its first bytes
pub heads_begin : (value own v bytes literal : List ℕ) → own ≡ value → bytes ≡ v → IsViewOf value v
    → AreBytes bytes → AreBytes literal → length literal ≤ 4294967295
    → from_le_bytes w64 v ≡ head_word literal
    → (length own ≡ length literal) × (order_prefix_word own ≡ order_prefix_word literal)
heads_begin value own v bytes literal e d h low k most same =
    let told = heads_tell v literal (subst AreBytes d low) k most same in (
      ap length e ∙ sym h.len ∙ told.0,
      ap order_prefix_word e ∙ sym (prefix_of_view value v h) ∙ told.1,
    )

module _ (value literal : List ℕ) where
  -- what the prefix of a value decides
  pub front_by : (b : Bool) → (b ≡ true → take (length literal) value ≡ literal)
      → (take (length literal) value ≡ literal → b ≡ true) → b ≡ starts_with nat_eq value literal
  front_by b f g =
      same_from_decides b (bytes_eq literal (take (length literal) value))
      (λ yes. sym (f yes), λ same. g (sym same))
      (bytes_eq-Decides literal (take (length literal) value))

  fits_front : take (length literal) value ≡ literal → length literal ≤ length value
  fits_front e = omega (arith, ap length e, length-take (length literal) value)

  whole_literal : take (length literal) literal ≡ literal
  whole_literal = take_all (length literal) literal (omega arith)

  pub too_short : length value < length literal → false ≡ starts_with nat_eq value literal
  too_short less =
      front_by false (λ yes. absurd (true≢false (sym yes)))
      (λ e. let fits = fits_front e in absurd (omega (arith, fits)))

  -- by the first four bytes
  pub short_front : (len x y : ℕ) → AreBytes value → AreBytes literal → length literal ≤ 4
      → len ≡ length value
      → x ≡ order_prefix_word value / 256 ^ (4 - length literal)
      → y ≡ order_prefix_word literal / 256 ^ (4 - length literal)
      → (leb (length literal) len && nat_eq x y) ≡ starts_with nat_eq value literal
  short_front len x y h k short l d e =
      front_by (leb (length literal) len && nat_eq x y)
      (λ yes. let told = both.0 yes in
      same_first_bytes (length literal) 4 (order_prefix_word value) (order_prefix_word literal)
      value literal h k short (omega (arith, told.0, l)) (omega arith) (prefix_digits value)
      (prefix_digits literal) (sym d ∙ told.1 ∙ e) ∙ whole_literal)
      (λ same. both.1 (
        omega (arith, fits_front same, l),
        d ∙ same_first_words (length literal) 4 (order_prefix_word value)
            (order_prefix_word literal) value literal h k short (prefix_digits value)
            (prefix_digits literal) (same ∙ sym whole_literal) ∙ sym e,
      ))
    where
      both : Decides (leb (length literal) len && nat_eq x y) ((length literal ≤ len) × (x ≡ y))
      both =
          Decides-and (leb (length literal) len) (nat_eq x y)
          (leb-true (length literal) len, le-leb (length literal) len) (Decides-eqb x y)

  -- the first four bytes of a longer literal are a part of it
  pub first_four : 4 ≤ length literal → take (length literal) value ≡ literal
      → take 4 value ≡ take 4 literal
  first_four long e = sym (take-take 4 (length literal) value long) ∙ ap (λ z. take 4 z) e

  pub other_prefix : 4 < length literal
      → (order_prefix_word value ≡ order_prefix_word literal → ⊥)
      → false ≡ starts_with nat_eq value literal
  other_prefix long differ =
      front_by false (λ yes. absurd (true≢false (sym yes)))
      (λ e. absurd (differ (prefix_digits value
      ∙ same_words 4 value literal (first_four (omega arith) e) ∙ sym (prefix_digits literal))))

  -- after equal first four bytes, by the next eight
  pub middle_front : (x y : ℕ) → AreBytes value → AreBytes literal → 4 < length literal
      → length literal ≤ 12 → length literal ≤ length value
      → take 4 value ≡ take 4 literal
      → x ≡ order_tail_word value / 256 ^ (8 - (length literal - 4))
      → y ≡ order_tail_word literal / 256 ^ (8 - (length literal - 4))
      → nat_eq x y ≡ starts_with nat_eq value literal
  middle_front x y h k long short fits four d e =
      front_by (nat_eq x y)
      (λ yes. parts value ∙ ap (λ z. z ++ take more (drop 4 value)) four
      ∙ ap (λ z. take 4 literal ++ z)
      (same_first_bytes more 8 (order_tail_word value) (order_tail_word literal) (drop 4 value)
      (drop 4 literal) (later 4 value h) (later 4 literal k) (omega arith)
      (omega (arith, length-drop 4 value)) (omega (arith, length-drop 4 literal))
      (tail_digits value) (tail_digits literal) (sym d ∙ eqb-true x y yes ∙ e))
      ∙ sym (parts literal) ∙ whole_literal)
      (λ same. eq-eqb x y (d
      ∙ same_first_words more 8 (order_tail_word value) (order_tail_word literal) (drop 4 value)
      (drop 4 literal) (later 4 value h) (later 4 literal k) (omega arith)
      (tail_digits value) (tail_digits literal) (rest same) ∙ sym e))
    where
      more : ℕ
      more = length literal - 4

      parts : (zs : List ℕ) → take (length literal) zs ≡ take 4 zs ++ take more (drop 4 zs)
      parts zs = ap (λ n. take n zs) (omega arith) ∙ take-add 4 more zs

      rest : take (length literal) value ≡ literal
          → take more (drop 4 value) ≡ take more (drop 4 literal)
      rest same =
          sym (drop-take 4 more value)
          ∙ ap (λ n. drop 4 (take n value)) (omega arith)
          ∙ ap (λ z. drop 4 z) (same ∙ sym whole_literal)
          ∙ ap (λ n. drop 4 (take n literal)) (omega arith)
          ∙ drop-take 4 more literal

  end_by : (b : Bool) → (b ≡ true → literal ≡ drop (length value - length literal) value)
      → (literal ≡ drop (length value - length literal) value → b ≡ true)
      → b ≡ ends_with nat_eq value literal
  end_by b f g =
      same_from_decides b (bytes_eq literal (drop (length value - length literal) value)) (f, g)
      (bytes_eq-Decides literal (drop (length value - length literal) value))

  pub too_short_end : length value < length literal → false ≡ ends_with nat_eq value literal
  too_short_end less =
      end_by false (λ yes. absurd (true≢false (sym yes)))
      (λ e. absurd (omega (
        arith,
        ap length e,
        length-drop (length value - length literal) value,
      )))

  -- the end of an inlined value
  pub inlined_end : (at x y : ℕ) (v : List ℕ) → AreBytes value → AreBytes literal → IsViewOf value v
      → view_len v ≤ 12 → length literal ≤ length value → at ≡ length value - length literal
      → x ≡ from_le_bytes w128 v / 2 ^ 32 / 256 ^ at
      → (length literal ≤ 12
      → y ≡ from_le_bytes w128 (inlined_view literal) / 2 ^ 32 / 256 ^ 0)
      → nat_eq x y ≡ ends_with nat_eq value literal
  inlined_end at x y v h k is short fits place d e =
      end_by (nat_eq x y)
      (λ yes. told.0 (eqb-true x y yes) ∙ ap (λ n. drop n value) place)
      (λ same. eq-eqb x y (told.1 (same ∙ ap (λ n. drop n value) (sym place))))
    where
      low : length value ≤ 12
      low = omega (arith, is.len)

      told : (x ≡ y → literal ≡ drop at value) × (literal ≡ drop at value → x ≡ y)
      told =
          same_ends at x y value literal h k low (omega arith)
          (d ∙ ap (λ w. from_le_bytes w128 w / 2 ^ 32 / 256 ^ at) (is.inlined low))
          (e (omega arith))
