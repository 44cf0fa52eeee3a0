-- Like of an exact argument with both ends, and of a pattern of a prefix and `%`, has an exact range.
use Rattle.std.specs.Prelude.{◌≡◌, ◌≢◌, ◌&&◌, ◌||◌, ℕ, ◌<◌, List, Bool, true, false, not}
use Rattle.std.specs.Prelude.{Option, Some, None, MatchOption, IsUtf8, if◌then◌else◌, refl}
use Rattle.std.specs.Str.{chars}
use Rattle.std.proofs.Common.{ap, ◌∙◌, subst}
use Rattle.vortex_types.specs.LogicalTypes.{bool_type, text_type}
use Rattle.vortex_types.specs.ScalarView.{ScalarView}
use Rattle.vortex_types.specs.Values.{Value, null, truth, number, text, bytes, list}
use Rattle.vortex_columns.specs.ColumnView.{ColumnView, is_bytes_like}
use Rattle.vortex_like.specs.declared.options.LikeOptions.{LikeOptions}
use Rattle.vortex_like.specs.Patterns.{like_value}
use Rattle.vortex_like.specs.Tokens.{tokens_of, is_match}
use Rattle.vortex_statistics.specs.StatisticsView.{StatisticsView}
use Rattle.vortex_interface.specs.Outcomes.{gives}
use Rattle.vortex_interface.specs.Meaning.{Meaning}
use Rattle.vortex_interface.specs.Shipped.{Like}
use Rattle.vortex_interface.specs.Functions.{ours}
use Rattle.vortex_interface.specs.Trees.{Tree, constant, call, no_trees, tree}
use Rattle.vortex_interface.proofs.TypedCalls.{eval_two}
use Rattle.vortex_ranges.specs.Ranges.{RangeView, Admits, is_over, is_above, may_be}
use Rattle.vortex_ranges.specs.Prefixes.{excludes_prefix, shares_prefix, IsPrefixPattern}
use Rattle.vortex_ranges.specs.Prefixes.{prefix_range}
use Rattle.vortex_ranges.specs.Described.{DescribeAll}
use Rattle.vortex_ranges.specs.Reached.{HasTextEnds, IsBegun}
use Rattle.vortex_ranges.proofs.PrefixesReached.{prefixes_reached}
use Rattle.vortex_ranges.proofs.PrefixPatterns.{prefix_matched}
use Rattle.vortex_ranges.proofs.Tests.{first, second, refuted}
use Rattle.vortex_pruning.specs.Exact.{IsReached, Gives, IsValueOf, HasEnds, IsExact}
use Rattle.vortex_pruning.proofs.ExactLeaves.{truths_exact}
use Rattle.vortex_pruning.proofs.ExactBetweens.{single}

record IsText (b : Bool) (v : Value) : Type 0 where
  pub bytes : List ℕ
  pub is : v ≡ text bytes
  pub utf8 : IsUtf8 bytes

as_text : (b : Bool) (v : Value) → IsValueOf (text_type b) v → IsText b v
as_text b (text bs) h = record { bytes = bs; is = refl; utf8 = h.typed }
as_text b null h = let never : true ≡ false = h.valid in cc
as_text b (truth c) h = absurd h.typed
as_text b (number z) h = absurd h.typed
as_text b (bytes bs) h = absurd h.typed
as_text b (list vs) h = absurd h.typed

record HasTexts (r : RangeView) : Type 0 where
  pub low : List ℕ
  pub high : List ℕ
  pub ends : HasTextEnds r low high

-- ends of texts, of which the high one is known
text_ends : (b : Bool) (r : RangeView) → r.may_be_value ≡ true → HasEnds (text_type b) r
    → r.high ≢ None → HasTexts r
text_ends b r there e capped = by r.high refl e.high
  where
    by : (o : Option Value) → r.high ≡ o
        → MatchOption o (is_bytes_like (text_type b) ≡ true) (IsValueOf (text_type b)) → HasTexts r
    by None q h = absurd (capped q)
    by (Some v) q h =
        let low = as_text b e.low e.low_value in
        let high = as_text b v h in
        let is_high : r.high ≡ Some (text high.bytes) = q ∙ ap (λ w. Some w) high.is in
        record {
          low = low.bytes;
          high = high.bytes;
          ends = record {
            low_text = low.utf8;
            high_text = high.utf8;
            is_low = e.is_low ∙ ap (λ w. Some w) low.is;
            is_high = is_high;
            ordered =
                subst (λ w. is_above w (text high.bytes) ≡ false) low.is
                (subst (λ (o : Option Value). is_over o e.low ≡ false) is_high e.low_inside);
            some = there;
          };
        }

as_inside : (r : RangeView) (bs : List ℕ) → Admits r (text bs) → may_be r (text bs) ≡ true
as_inside r bs a = a

module _ {V O : Type 0} (m : Meaning V O) (n : ℕ) (ss : List StatisticsView)
    (base : List ColumnView) (d : DescribeAll n ss base) (some : 0 < n) where
  abbrev Reaches : Tree V O → Value → Type 0
  Reaches t v = IsReached m n ss t (Gives v)

  abbrev pub like : LikeOptions → Tree V O → ScalarView → Tree V O
  like options t q = call (ours (Like options)) (tree t (tree (constant q) no_trees))

  module _ (options : LikeOptions) (plain : options.case_insensitive ≡ false) (t : Tree V O)
      (q : ScalarView) (pattern prefix : List ℕ) (known : q.value ≡ text pattern)
      (u : IsUtf8 prefix) (h : IsPrefixPattern options.escape pattern prefix) (a b : Bool)
      (r : RangeView) (x : IsExact m n ss t (text_type a) r) (capped : r.high ≢ None) where
    abbrev there : Bool
    there = r.may_be_value && true

    abbrev possible : Bool
    possible = not (excludes_prefix r prefix)

    abbrev certain : Bool
    certain = shares_prefix r prefix

    reached : (v w : Value) → Reaches t v → like_value options v (text pattern) ≡ w
        → Reaches (like options t q) w
    reached v w g e =
        record {
          columns = g.columns;
          described = g.described;
          here = eval_two m g.columns 0 (ours (Like options)) t (constant q) v q.value g.here refl
              ∙ ap (λ z. gives (like_value options v z)) known ∙ ap gives e;
        }

    ends : there ≡ true → HasTexts r
    ends e =
        let value = first r.may_be_value true e in
        text_ends a r value (x.ends value) capped

    -- a text that begins with the prefix, or that does not
    given : (begun : Bool) → IsBegun r prefix begun
        → Reaches (like options t q) (truth (if options.negated then not begun else begun))
    given begun g =
        let found : is_match options.case_insensitive (tokens_of options.escape (chars pattern))
        (chars g.bytes) ≡ begun =
        ap (λ c. is_match c (tokens_of options.escape (chars pattern)) (chars g.bytes)) plain
        ∙ prefix_matched options.escape pattern prefix u h g.bytes g.utf8 ∙ g.starts in
        reached (text g.bytes) (truth (if options.negated then not begun else begun))
        (x.values (text g.bytes) (record { typed = g.utf8; valid = refl })
        (as_inside r g.bytes g.admitted))
        (ap (λ c. truth (if options.negated then not c else c)) found)

    begins : there ≡ true → possible ≡ true → IsBegun r prefix true
    begins e g =
        let p = ends e in
        prefixes_reached.begun r p.low p.high prefix p.ends u
        (refuted (excludes_prefix r prefix) g)

    differs : there ≡ true → not certain ≡ true → IsBegun r prefix false
    differs e g =
        let p = ends e in
        prefixes_reached.other r p.low p.high prefix p.ends (refuted certain g)

    unknown : (r.may_be_null || false) ≡ true → Reaches (like options t q) null
    unknown e = reached null null (x.nulls (by r.may_be_null e)) refl
      where
        by : (c : Bool) → (c || false) ≡ true → c ≡ true
        by true g = refl
        by false g = g

    module _ (negated : Bool) (is : options.negated ≡ negated) where
      as_told : (begun c : Bool) → IsBegun r prefix begun
          → (if negated then not begun else begun) ≡ c → Reaches (like options t q) (truth c)
      as_told begun c g e =
          subst (λ z. Reaches (like options t q) (truth z))
          (ap (λ z. if z then not begun else begun) is ∙ e) (given begun g)

    untrue : (negated : Bool) → options.negated ≡ negated
        → (there && (if negated then possible else not certain)) ≡ true
        → Reaches (like options t q) (truth false)
    untrue true is e =
        as_told true is true false (begins (first there possible e) (second there possible e)) refl
    untrue false is e =
        as_told false is false false
        (differs (first there (not certain) e) (second there (not certain) e)) refl

    sure : (negated : Bool) → options.negated ≡ negated
        → (there && (if negated then not certain else possible)) ≡ true
        → Reaches (like options t q) (truth true)
    sure true is e =
        as_told true is false true
        (differs (first there (not certain) e) (second there (not certain) e)) refl
    sure false is e =
        as_told false is true true (begins (first there possible e) (second there possible e)) refl

    pub like_exact : IsExact m n ss (like options t q) (bool_type b)
        (prefix_range options prefix r (single (text pattern)))
    like_exact =
        truths_exact m n ss base d some (like options t q) b (r.may_be_null || false)
        (there && (if options.negated then possible else not certain))
        (there && (if options.negated then not certain else possible))
        unknown (untrue options.negated refl) (sure options.negated refl)
