-- The range of Like admits its values.
use Rattle.std.specs.Prelude.{◌≡◌, ◌++◌, ◌&&◌, ◌||◌, ℕ, List, [], ◌∷◌, Bool, true, false, not, Option}
use Rattle.std.specs.Prelude.{Some, None, IsUtf8, refl, if◌then◌else◌, encode_utf8_all}
use Rattle.std.specs.Str.{chars}
use Rattle.std.proofs.Common.{map, ap, sym, subst, ◌∙◌, ◌≤◌, ◌<◌, length, get_or, arith}
use Rattle.std.proofs.lemmas.Str.{encodes-chars}
use Rattle.vortex_types.specs.LogicalTypes.{LogicalType, text_type}
use Rattle.vortex_types.specs.Values.{Value, null, truth, text}
use Rattle.vortex_types.specs.Typing.{HasType}
use Rattle.vortex_like.specs.declared.options.LikeOptions.{LikeOptions}
use Rattle.vortex_like.specs.declared.variant.LikeVariant.{LikeVariant}
use Rattle.vortex_like.specs.declared.variant.LikeVariant.TheVariants.{Exact, Prefix}
use Rattle.vortex_like.specs.Patterns.{like_value}
use Rattle.vortex_like.specs.Tokens.{tokens_of, is_match, Match}
use Rattle.vortex_like.specs.Variants.{TellsMatches}
use Rattle.vortex_like.proofs.Literals.{parted_bytes, same_bytes}
use Rattle.vortex_like.proofs.Testing.{match_tested}
use Rattle.vortex_interface.specs.Shipped.{Like, shipped_type, shipped_means}
use Rattle.vortex_ranges.specs.Ranges.{RangeView, Admits, may_be, is_above, is_under, is_over}
use Rattle.vortex_ranges.specs.Truths.{truths}
use Rattle.vortex_ranges.specs.Calls.{AdmitsCalls}
use Rattle.vortex_ranges.specs.Prefixes.{excludes_prefix, matches, NoneMatch, NoneBegins}
use Rattle.vortex_ranges.specs.Prefixes.{NoneEquals, NoneIs, NoneIsLike, IsOnlyText, likeness}
use Rattle.vortex_ranges.specs.Prefixes.{AdmitsLike, AreMatches, IsPrefixRange, ArePrefixRange}
use Rattle.vortex_ranges.specs.declared.like.Matches.{Matches}
use Rattle.vortex_ranges.specs.declared.range.Range.{Range}
use Rattle.vortex_ranges.specs.BoundViews.{range_of}
use Rattle.vortex_ranges.proofs.Tests.{both, on_left, on_right}
use Rattle.vortex_ranges.proofs.KleeneTables.{truths-admit}
use Rattle.vortex_ranges.proofs.Above.{not_under, not_over, has_value, lies_inside}
use Rattle.vortex_ranges.proofs.PrefixOrder.{prefix_is_admitted, only_between}

no_both : (b : Bool) → b ≡ true → b ≡ false → ⊥
no_both true e f = cc
no_both false e f = cc

-- what begins with the characters of a text begins with its bytes
pub none_begins : (r : RangeView) (prefix : List ℕ) → IsUtf8 prefix
    → excludes_prefix r prefix ≡ true → NoneBegins r prefix
none_begins r prefix u x bytes rest v a e =
    let same : bytes ≡ prefix ++ encode_utf8_all rest =
    parted_bytes bytes (chars prefix) rest v e
    ∙ ap (λ (bs : List ℕ). bs ++ encode_utf8_all rest) (encodes-chars prefix u) in
    no_both (excludes_prefix r prefix) x
    (prefix_is_admitted r prefix (encode_utf8_all rest)
    (subst (λ (bs : List ℕ). Admits r (text bs)) same a))

pub none_equals : (r : RangeView) (exact : List ℕ) → IsUtf8 exact
    → may_be r (text exact) ≡ false → NoneEquals r exact
none_equals r exact u x bytes v a e =
    no_both (may_be r (text exact))
    (subst (λ (bs : List ℕ). Admits r (text bs)) (same_bytes bytes exact v u e) a) x

by_none : (b : Bool) → (b ≡ true → ⊥) → b ≡ false
by_none true f = absurd (f refl)
by_none false f = refl

pub sure : (b : Bool) → not b ≡ false → b ≡ true
sure true e = refl
sure false e = cc

-- ends that are one text
pub only_text_is : (r : RangeView) (low high : List ℕ) → r.low ≡ Some (text low)
    → r.high ≡ Some (text high) → low ≡ high → IsOnlyText r low
only_text_is r low high d e same bytes a =
    let inside = lies_inside r (text bytes) a in
    let above : is_above (text low) (text bytes) ≡ false =
    subst (λ o. is_under o (text bytes) ≡ false) d (not_under r.low r.high (text bytes) inside) in
    let below : is_above (text bytes) (text high) ≡ false =
    subst (λ o. is_over o (text bytes) ≡ false) e (not_over r.low r.high (text bytes) inside) in
    only_between low bytes above
    (subst (λ (bs : List ℕ). is_above (text bytes) (text bs) ≡ false) (sym same) below)

-- a pattern by its variant
pub none_is_like : (escape : Option ℕ) (r : RangeView) (pattern : List ℕ) (v : LikeVariant)
    → TellsMatches escape (chars pattern) (Some v) → NoneIs r v → NoneIsLike escape r pattern
none_is_like escape r pattern (Exact exact) tells none bytes u a m =
    none bytes u a ((tells (chars bytes)).0 m)
none_is_like escape r pattern (Prefix prefix) tells none bytes u a m =
    let parts = tells (chars bytes) m in none bytes parts.0 u a parts.1

-- a pattern that is known
pub none_match : (options : LikeOptions) (r s : RangeView) (known : List ℕ)
    → options.case_insensitive ≡ false → IsOnlyText s known → NoneIsLike options.escape r known
    → NoneMatch options r s
none_match options r s known plain only none bytes pattern u w a d =
    by_none (matches options bytes pattern) (λ e. none bytes u a
    (subst (λ (b : Bool). Match b (tokens_of options.escape (chars known)) (chars bytes)) plain
    (match_tested options.case_insensitive (tokens_of options.escape (chars known)) (chars bytes)
    (subst (λ (bs : List ℕ). is_match options.case_insensitive
    (tokens_of options.escape (chars bs)) (chars bytes) ≡ true) (only pattern d) e))))

module _ (options : LikeOptions) (m : Matches) (r s : RangeView)
    (h : AreMatches options r s m) where
  abbrev turned : Bool → Bool → Bool
  turned negated found = if negated then not found else found

  abbrev known : Bool → Bool → Bool → RangeView
  known possible certain negated =
      truths (r.may_be_null || s.may_be_null) (if negated then possible else not certain)
      (if negated then not certain else possible)

  -- there is a text and a pattern
  abbrev there : Bool
  there = r.may_be_value && s.may_be_value

  where_there : there ≡ true → (v : Value)
      → Admits (known m.possible m.certain options.negated) v
      → Admits (likeness options m.possible m.certain r s) v
  where_there e v a =
      subst (λ b. Admits (truths (r.may_be_null || s.may_be_null)
      (b && (if options.negated then m.possible else not m.certain))
      (b && (if options.negated then not m.certain else m.possible))) v) (sym e) a

  told : (possible certain negated found : Bool) → (possible ≡ false → found ≡ false)
      → (certain ≡ true → found ≡ true)
      → Admits (known possible certain negated) (truth (turned negated found))
  told true certain false true f g =
      truths-admit (r.may_be_null || s.may_be_null) (not certain) true (Some true) refl
  told true certain true true f g =
      truths-admit (r.may_be_null || s.may_be_null) true (not certain) (Some false) refl
  told possible false false false f g =
      truths-admit (r.may_be_null || s.may_be_null) true possible (Some false) refl
  told possible false true false f g =
      truths-admit (r.may_be_null || s.may_be_null) possible true (Some true) refl
  told false certain negated true f g = let never : true ≡ false = f refl in cc
  told possible true negated false f g = let never : false ≡ true = g refl in cc

  pair : (n k : Bool) (v w : Value) → HasType (text_type n) v → HasType (text_type k) w
      → Admits r v → Admits s w
      → Admits (likeness options m.possible m.certain r s) (like_value options v w)
  pair n k (text bs) (text p) i j a d =
      let found = matches options bs p in
      where_there
      (both r.may_be_value s.may_be_value (has_value r (text bs) a) (has_value s (text p) d))
      (truth (turned options.negated found))
      (told m.possible m.certain options.negated found
      (λ e. h.0 e bs p i j a d) (λ e. h.1 e bs p i j a d))
  pair n k null w i j a d = on_left r.may_be_null s.may_be_null a
  pair n k (text bs) null i j a d = on_right r.may_be_null s.may_be_null d
  pair n k (text bs) w i j a d = absurd j
  pair n k v w i j a d = absurd i

  pub like-admits : (t : LogicalType)
      → AdmitsCalls (shipped_type (Like options)) (shipped_means (Like options)) t (r ∷ s ∷ [])
      (likeness options m.possible m.certain r s)
  like-admits t (text_type n ∷ text_type m ∷ []) (v ∷ w ∷ []) e h a =
      pair n m v w h.0 h.1.0 a.0 a.1.0
  like-admits t ts [] e h a = absurd a
  like-admits t ts (v ∷ []) e h a = absurd a.1
  like-admits t ts (v ∷ w ∷ x ∷ vs) e h a = absurd a.1.1
  like-admits t ts vs e h a = cc

-- what stands for a range that is not there
abbrev pub no_range : Range
no_range = record {
  may_fault = false;
  may_be_null = false;
  may_be_value = false;
  low = None;
  high = None;
}

pub like-calls : (options : LikeOptions) (t : LogicalType) (rs : List Range) (r : RangeView)
    → 2 ≤ length rs → length rs < 3
    → AdmitsLike options (range_of (get_or rs 0 no_range)) (range_of (get_or rs 1 no_range)) r
    → AdmitsCalls (shipped_type (Like options)) (shipped_means (Like options)) t
    (map range_of rs) r
like-calls options t [] r h k a = absurd (omega (arith, h))
like-calls options t (x ∷ []) r h k a = absurd (omega (arith, h))
like-calls options t (x ∷ y ∷ []) r h k a = a t
like-calls options t (x ∷ y ∷ z ∷ rs) r h k a = absurd (omega (arith, k))

pub like-prefix : (options : LikeOptions) (rs : List Range) (r : RangeView)
    → 2 ≤ length rs → length rs < 3
    → IsPrefixRange options (range_of (get_or rs 0 no_range)) (range_of (get_or rs 1 no_range)) r
    → ArePrefixRange options (map range_of rs) r
like-prefix options [] r h k a = tt
like-prefix options (x ∷ []) r h k a = tt
like-prefix options (x ∷ y ∷ []) r h k a = a
like-prefix options (x ∷ y ∷ z ∷ rs) r h k a = tt
