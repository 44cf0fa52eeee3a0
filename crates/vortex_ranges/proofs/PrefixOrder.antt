-- Texts that begin with a prefix, in the order of texts.
use Rattle.std.specs.Prelude.{◌≡◌, ◌++◌, ◌&&◌, ◌||◌, ℕ, List, [], ◌∷◌, Bool, true, false, not, Option}
use Rattle.std.specs.Prelude.{Some, None, nat_eq, refl}
use Rattle.std.proofs.Common.{ap, sym, subst, ◌∙◌, drop, length}
use Rattle.std.proofs.lemmas.Cmp.{nat_cmp_total}
use Rattle.std.proofs.lemmas.Bool.Decides.{Decides-eqb}
use Rattle.std.proofs.lemmas.Slice.Eq.{starts_is}
use Rattle.std.specs.declared.cmp.Ordering.{Ordering}
use Rattle.std.specs.declared.cmp.Ordering.TheVariants.{Less, Equal, Greater}
use Rattle.std.specs.Cmp.{nat_cmp_is}
use Rattle.std.specs.FinMap.{nat_cmp-IsAntisymmetric, slice_cmp-IsAntisymmetric}
use Rattle.std.specs.Ordering.{is_gt, nat_cmp, ordering_then, ordering_reverse}
use Rattle.std.specs.Cmp.Lexicographic.{slice_cmp}
use Rattle.std.specs.List.{starts_with}
use Rattle.vortex_types.specs.Values.{Value, text}
use Rattle.vortex_ranges.specs.Ranges.{RangeView, Admits, is_above, is_under, is_over, is_inside}
use Rattle.vortex_ranges.specs.Prefixes.{is_past, excludes_prefix, begins_with, shares_prefix}
use Rattle.vortex_ranges.proofs.Tests.{first, second}
use Rattle.vortex_ranges.proofs.Above.{chained, not_under, not_over, lies_inside, less_is_below}

-- a prefix is not above what begins with it
not_above : (prefix rest : List ℕ) → is_gt (slice_cmp nat_cmp prefix (prefix ++ rest)) ≡ false
not_above [] [] = refl
not_above [] (c ∷ rest) = refl
not_above (c ∷ prefix) rest =
    subst (λ o. is_gt (ordering_then o (slice_cmp nat_cmp prefix (prefix ++ rest))) ≡ false)
    (nat_cmp_is c c Equal refl) (not_above prefix rest)

-- what is above a prefix, and not above what begins with it, begins with it
begins : (low prefix rest : List ℕ) → is_gt (slice_cmp nat_cmp low prefix) ≡ true
    → is_gt (slice_cmp nat_cmp low (prefix ++ rest)) ≡ false
    → (after : List ℕ) × (low ≡ prefix ++ after)
begins low [] rest g h = (low, refl)
begins [] (d ∷ prefix) rest g h = cc
begins (c ∷ low) (d ∷ prefix) rest g h =
    by (nat_cmp c d) refl g h (λ g h. begins low prefix rest g h)
  where
    by : (o : Ordering) → nat_cmp c d ≡ o
        → is_gt (ordering_then o (slice_cmp nat_cmp low prefix)) ≡ true
        → is_gt (ordering_then o (slice_cmp nat_cmp low (prefix ++ rest))) ≡ false
        → (is_gt (slice_cmp nat_cmp low prefix) ≡ true
        → is_gt (slice_cmp nat_cmp low (prefix ++ rest)) ≡ false
        → (after : List ℕ) × (low ≡ prefix ++ after))
        → (after : List ℕ) × (c ∷ low ≡ d ∷ prefix ++ after)
    by Less e g h later = cc
    by Greater e g h later = cc
    by Equal e g h later =
        let r = later g h in
        let same : c ≡ d = nat_cmp-IsAntisymmetric c d e in
        (r.0, ap (λ (x : ℕ). x ∷ low) same ∙ ap (λ (bs : List ℕ). d ∷ bs) r.1)

module _ (r : RangeView) (prefix rest : List ℕ) (a : Admits r (text (prefix ++ rest))) where
  inside : is_inside r.low r.high (text (prefix ++ rest)) ≡ true
  inside = lies_inside r (text (prefix ++ rest)) a

  not_over_end : (high : Option Value) → is_over high (text (prefix ++ rest)) ≡ false
      → is_over high (text prefix) ≡ false
  not_over_end None e = refl
  not_over_end (Some h) e =
      chained (text prefix) (text (prefix ++ rest)) h (not_above prefix rest) e

  not_past_text : (low : List ℕ) → is_above (text low) (text (prefix ++ rest)) ≡ false
      → is_past prefix (Some (text low)) ≡ false
  not_past_text low e = by (is_above (text low) (text prefix)) refl
    where
      by : (b : Bool) → is_above (text low) (text prefix) ≡ b
          → (b && not (starts_with nat_eq low prefix)) ≡ false
      by false g = refl
      by true g =
          let parts = begins low prefix rest g e in
          let told = starts_is Decides-eqb low prefix (starts_with nat_eq low prefix) refl in
          ap not (told.1 parts.0 parts.1)

  not_past_end : (low : Option Value) → is_under low (text (prefix ++ rest)) ≡ false
      → is_past prefix low ≡ false
  not_past_end (Some (text low)) e = not_past_text low e
  not_past_end low e = refl

  pub prefix_is_admitted : excludes_prefix r prefix ≡ false
  prefix_is_admitted =
      (λ i. not_over_end r.high (not_over r.low r.high (text (prefix ++ rest)) inside) i
      || not_past_end r.low (not_under r.low r.high (text (prefix ++ rest)) inside) i)

-- between two texts that begin with a prefix each text does
squeezed : (prefix low high bytes : List ℕ)
    → is_gt (slice_cmp nat_cmp (prefix ++ low) bytes) ≡ false
    → is_gt (slice_cmp nat_cmp bytes (prefix ++ high)) ≡ false
    → (rest : List ℕ) × (bytes ≡ prefix ++ rest)
squeezed [] low high bytes g h = (bytes, refl)
squeezed (c ∷ prefix) low high [] g h = cc
squeezed (c ∷ prefix) low high (b ∷ bytes) g h =
    by (nat_cmp c b) refl g
    (subst
    (λ o. is_gt (ordering_then o (slice_cmp nat_cmp bytes (prefix ++ high))) ≡ false)
    (nat_cmp_total.antisymm b c) h)
    (λ g h. squeezed prefix low high bytes g h)
  where
    by : (o : Ordering) → nat_cmp c b ≡ o
        → is_gt (ordering_then o (slice_cmp nat_cmp (prefix ++ low) bytes)) ≡ false
        → is_gt (ordering_then (ordering_reverse o) (slice_cmp nat_cmp bytes (prefix ++ high)))
        ≡ false
        → (is_gt (slice_cmp nat_cmp (prefix ++ low) bytes) ≡ false
        → is_gt (slice_cmp nat_cmp bytes (prefix ++ high)) ≡ false
        → (rest : List ℕ) × (bytes ≡ prefix ++ rest))
        → (rest : List ℕ) × (b ∷ bytes ≡ c ∷ prefix ++ rest)
    by Less e g h later = cc
    by Greater e g h later = cc
    by Equal e g h later =
        let r = later g h in
        let same : c ≡ b = nat_cmp-IsAntisymmetric c b e in
        (r.0, ap (λ (x : ℕ). x ∷ bytes) (sym same) ∙ ap (λ (bs : List ℕ). c ∷ bs) r.1)

begun_end : (prefix : List ℕ) (end : Option Value) → begins_with prefix end ≡ true
    → (after : List ℕ) × (end ≡ Some (text (prefix ++ after)))
begun_end prefix (Some (text bytes)) e =
    let told = starts_is Decides-eqb bytes prefix (starts_with nat_eq bytes prefix) refl in
    (drop (length prefix) bytes, ap (λ (bs : List ℕ). Some (text bs)) (told.0 e))
begun_end prefix end e = cc

-- so between two such ends
pub shared : (r : RangeView) (prefix bytes : List ℕ) → shares_prefix r prefix ≡ true
    → Admits r (text bytes) → (rest : List ℕ) × (bytes ≡ prefix ++ rest)
shared r prefix bytes e a =
    let low = begun_end prefix r.low
    (first (begins_with prefix r.low) (begins_with prefix r.high) e) in
    let high = begun_end prefix r.high
    (second (begins_with prefix r.low) (begins_with prefix r.high) e) in
    let inside = lies_inside r (text bytes) a in
    squeezed prefix low.0 high.0 bytes
    (subst (λ o. is_under o (text bytes) ≡ false) low.1
    (not_under r.low r.high (text bytes) inside))
    (subst (λ o. is_over o (text bytes) ≡ false) high.1
    (not_over r.low r.high (text bytes) inside))

-- between ends that are one text lies that text alone
pub only_between : (known bytes : List ℕ) → is_above (text known) (text bytes) ≡ false
    → is_above (text bytes) (text known) ≡ false → bytes ≡ known
only_between known bytes d e = by (slice_cmp nat_cmp bytes known) refl
  where
    by : (o : Ordering) → slice_cmp nat_cmp bytes known ≡ o → bytes ≡ known
    by Equal h = slice_cmp-IsAntisymmetric nat_cmp-IsAntisymmetric bytes known h
    by Greater h =
        let never : is_gt (slice_cmp nat_cmp bytes known) ≡ true = ap is_gt h in
        cc
    by Less h =
        let never : is_above (text known) (text bytes) ≡ true =
        less_is_below (text bytes) (text known) h in
        cc
