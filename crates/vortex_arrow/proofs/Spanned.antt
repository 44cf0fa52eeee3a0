-- Rows that are parts of one text.
use Rattle.std.proofs.Common.{◌≡◌, ℕ, ◌+◌, ◌-◌, ◌≤◌, ℤ, pos, List, length, take, drop, sym, ap}
use Rattle.std.proofs.Common.{◌∙◌, subst, arith}
use Rattle.std.proofs.lemmas.Int.{ints}
use Rattle.std.specs.Prelude.{slice_range, IsUtf8}
use Rattle.std.specs.Str.{IsCharBoundary}
use Rattle.std.proofs.lemmas.List.{drop-take, take-take, drop-drop}
use Rattle.std.proofs.lemmas.Str.{IsUtf8-between}
use Rattle.vortex_arrow.specs.Values.{bytes_between, LieWithin}

module _ (all text : List ℕ) (base from to : ℕ) (a b : ℤ)
    (is : text ≡ slice_range all base (base + length text))
    (fits : base + length text ≤ length all) (order : from ≤ to) (within : to ≤ length text)
    (a_is : a ≡ pos (base + from)) (b_is : b ≡ pos (base + to)) where
  pub part_is : slice_range text from to ≡ bytes_between all a b
  part_is =
      let whole : base + length text - base ≡ from + (length text - from) = omega arith in
      let size : to - from ≡ base + to - (base + from) = omega arith in
      ap (λ (xs : List ℕ). take (to - from) (drop from xs))
      (is ∙ ap (λ n. take n (drop base all)) whole)
      ∙ ap (take (to - from)) (drop-take from (length text - from) (drop base all))
      ∙ take-take (to - from) (length text - from) (drop from (drop base all)) (omega arith)
      ∙ ap (take (to - from)) (drop-drop from base all)
      ∙ ap (λ n. take n (drop (base + from) all)) size
      ∙ (λ k. bytes_between all (sym a_is k) (sym b_is k))

  lies_by : (x y : ℕ) → x ≤ y → y ≤ length all → LieWithin all (pos x) (pos y)
  lies_by x y h k = record {
    start = omega (arith, ints);
    order = omega (arith, ints, h);
    end = omega (arith, ints, k);
  }

  pub part_lies : LieWithin all a b
  part_lies =
      subst (λ x. LieWithin all x b) (sym a_is)
      (subst (λ y. LieWithin all (pos (base + from)) y) (sym b_is)
      (lies_by (base + from) (base + to) (omega arith) (omega arith)))

  pub part_is_text : IsUtf8 text → IsCharBoundary text from → IsCharBoundary text to
      → IsUtf8 (bytes_between all a b)
  part_is_text utf8 starts ends =
      subst IsUtf8 part_is (IsUtf8-between text from to utf8 order starts ends)
