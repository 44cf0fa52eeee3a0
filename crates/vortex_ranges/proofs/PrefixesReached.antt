-- Texts between two ends that begin with a prefix, and that do not.
use Rattle.std.specs.Prelude.{◌≡◌, ◌&&◌, ◌||◌, ℕ, List, [], Bool, true, false, not}
use Rattle.std.specs.Prelude.{nat_eq, refl, IsUtf8}
use Rattle.std.proofs.Common.{ap, sym, ◌∙◌, append-nil, ◌⊎◌, inl, inr}
use Rattle.std.proofs.lemmas.Bool.Decides.{Decides-eqb}
use Rattle.std.proofs.lemmas.Slice.Eq.{starts_is}
use Rattle.std.specs.List.{starts_with}
use Rattle.vortex_types.specs.Values.{text}
use Rattle.vortex_ranges.specs.Ranges.{RangeView, Admits, is_above, is_over, is_inside}
use Rattle.vortex_ranges.specs.Prefixes.{is_past, excludes_prefix, begins_with, shares_prefix}
use Rattle.vortex_ranges.proofs.Above.{not_itself}
use Rattle.vortex_ranges.specs.Reached.{HasTextEnds, IsBegun, PrefixesAreReached}

level : (bs : List ℕ) → is_above (text bs) (text bs) ≡ false
level bs = not_itself (text bs)

starts_self : (prefix : List ℕ) → starts_with nat_eq prefix prefix ≡ true
starts_self prefix =
    (starts_is Decides-eqb prefix prefix (starts_with nat_eq prefix prefix) refl).1 []
    (sym (append-nil prefix))

neither : (a b : Bool) → (a || b) ≡ false → (a ≡ false) × (b ≡ false)
neither true b h = cc
neither false b h = (refl, h)

either_false : (a b : Bool) → (a && b) ≡ false → (a ≡ false) ⊎ (b ≡ false)
either_false true b h = inr h
either_false false b h = inl refl

module _ (r : RangeView) (low high : List ℕ) (ends : HasTextEnds r low high) where
  -- a text that lies below neither end's other side is admitted
  admitted : (bs : List ℕ) → is_above (text low) (text bs) ≡ false
      → is_above (text bs) (text high) ≡ false → Admits r (text bs)
  admitted bs above below =
      (λ i. ends.some i && is_inside (ends.is_low i) (ends.is_high i) (text bs))
      ∙ (λ i. not (above i) && not (below i))

  of_low : (prefix : List ℕ) (b : Bool) → starts_with nat_eq low prefix ≡ b → IsBegun r prefix b
  of_low prefix b e = record {
    bytes = low;
    utf8 = ends.low_text;
    admitted = admitted low (level low) ends.ordered;
    starts = e;
  }

  of_high : (prefix : List ℕ) (b : Bool) → starts_with nat_eq high prefix ≡ b → IsBegun r prefix b
  of_high prefix b e = record {
    bytes = high;
    utf8 = ends.high_text;
    admitted = admitted high ends.ordered (level high);
    starts = e;
  }

  some_begins : (prefix : List ℕ) → IsUtf8 prefix → excludes_prefix r prefix ≡ false
      → IsBegun r prefix true
  some_begins prefix utf8 h = by (is_above (text low) (text prefix)) refl
    where
      parts : (is_over r.high (text prefix) ≡ false) × (is_past prefix r.low ≡ false)
      parts = neither (is_over r.high (text prefix)) (is_past prefix r.low) h

      below : is_above (text prefix) (text high) ≡ false
      below = ap (λ e. is_over e (text prefix)) (sym ends.is_high) ∙ parts.0

      past : (is_above (text low) (text prefix) && not (starts_with nat_eq low prefix)) ≡ false
      past = ap (λ e. is_past prefix e) (sym ends.is_low) ∙ parts.1

      told : (a s : Bool) → a ≡ true → (a && not s) ≡ false → s ≡ true
      told true true p q = refl
      told true false p q = cc
      told false s p q = cc

      by : (a : Bool) → is_above (text low) (text prefix) ≡ a → IsBegun r prefix true
      by false e = record {
        bytes = prefix;
        utf8 = utf8;
        admitted = admitted prefix e below;
        starts = starts_self prefix;
      }
      by true e = of_low prefix true (told (is_above (text low) (text prefix)) (starts_with nat_eq low prefix) e past)

  some_other : (prefix : List ℕ) → shares_prefix r prefix ≡ false → IsBegun r prefix false
  some_other prefix h = by (either_false (starts_with nat_eq low prefix) (starts_with nat_eq high prefix) shared)
    where
      shared : (starts_with nat_eq low prefix && starts_with nat_eq high prefix) ≡ false
      shared = (λ i. begins_with prefix (sym ends.is_low i) && begins_with prefix (sym ends.is_high i)) ∙ h

      by : (starts_with nat_eq low prefix ≡ false) ⊎ (starts_with nat_eq high prefix ≡ false)
          → IsBegun r prefix false
      by (inl e) = of_low prefix false e
      by (inr e) = of_high prefix false e

pub prefixes_reached : PrefixesAreReached
prefixes_reached = record {
  begun = λ r low high prefix ends utf8 h. some_begins r low high ends prefix utf8 h;
  other = λ r low high prefix ends h. some_other r low high ends prefix h;
}
