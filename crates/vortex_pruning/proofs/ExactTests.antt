-- Calls of Between and of Like that are as sharp as their arguments.
use Rattle.std.specs.Prelude.{◌≡◌, ◌≢◌, ◌&&◌, ◌||◌, ℕ, ◌<◌, List, [], ◌∷◌, Bool, true, false}
use Rattle.std.specs.Prelude.{Option, Some, None, IfSome, IsUtf8, refl}
use Rattle.std.proofs.Common.{sym, ap, ◌∙◌, subst, cond}
use Rattle.vortex_types.specs.LogicalTypes.{LogicalType, bool_type, text_type, is_nullable}
use Rattle.vortex_types.specs.ScalarView.{ScalarView}
use Rattle.vortex_types.specs.TypeEquality.{alike_types}
use Rattle.vortex_types.specs.Values.{Value, null, truth, number, text, bytes, list, is_null}
use Rattle.vortex_columns.specs.ColumnView.{ColumnView}
use Rattle.vortex_operators.specs.declared.between.BetweenOptions.{BetweenOptions}
use Rattle.vortex_operators.specs.Between.{between_type}
use Rattle.vortex_like.specs.declared.options.LikeOptions.{LikeOptions}
use Rattle.vortex_statistics.specs.StatisticsView.{StatisticsView}
use Rattle.vortex_interface.specs.Meaning.{Meaning}
use Rattle.vortex_interface.specs.Shipped.{Between, Like}
use Rattle.vortex_interface.specs.Shipped.BetweenFunction.{bounded_type}
use Rattle.vortex_interface.specs.Shipped.LikeFunction.{like_type}
use Rattle.vortex_interface.specs.Functions.{ours}
use Rattle.vortex_interface.specs.Trees.{place, Tree, leaf, constant, call, no_trees, tree}
use Rattle.vortex_interface.specs.Eval.{tree_type, tree_types}
use Rattle.vortex_interface.proofs.TypedCalls.{types_parts, two_types, IsTypedCall}
use Rattle.vortex_ranges.specs.Ranges.{RangeView, only}
use Rattle.vortex_ranges.specs.TypeRanges.{greatest, known_or}
use Rattle.vortex_ranges.specs.Comparing.{betweenness}
use Rattle.vortex_ranges.specs.Described.{DescribeAll, known_end, literal_range}
use Rattle.vortex_ranges.specs.Prefixes.{IsPrefixRange, prefix_range}
use Rattle.vortex_ranges.specs.Reached.{inclusive}
use Rattle.vortex_ranges.specs.ShippedCalls.{between_range}
use Rattle.vortex_pruning.specs.Exact.{IsValueOf, HasEnds, IsExact}
use Rattle.vortex_pruning.specs.Knowing.{IsLeafRange}
use Rattle.vortex_pruning.specs.SharpCalls.{AreBounds, IsPrefixTest, IsCapped}
use Rattle.vortex_pruning.proofs.OrderedPairs.{same_values}
use Rattle.vortex_pruning.proofs.ExactTrees.{alike_back}
use Rattle.vortex_pruning.proofs.ExactBetweens.{single, between_exact}
use Rattle.vortex_pruning.proofs.ExactPrefixes.{like_exact}

-- a literal that is not null, and whose range has ends, is a value of its type
record IsLiteral (k : LogicalType) (v : Value) : Type 0 where
  pub range : literal_range v ≡ single v
  pub there : IsValueOf k v

same_end : (k : LogicalType) (v : Value) → HasEnds k (single v) → IsValueOf k v
same_end k v e =
    let is : v ≡ e.low = cc in subst (IsValueOf k) (sym is) e.low_value

is_literal : (k : LogicalType) (v : Value) → is_null v ≡ false
    → ((literal_range v).may_be_value ≡ true → HasEnds k (literal_range v)) → IsLiteral k v
is_literal k null valid e = cc
is_literal k (truth b) valid e =
    record { range = refl; there = same_end k (truth b) (e refl) }
is_literal k (number z) valid e =
    record { range = refl; there = same_end k (number z) (e refl) }
is_literal k (text bs) valid e =
    record { range = refl; there = same_end k (text bs) (e refl) }
is_literal k (bytes bs) valid e =
    record { range = refl; there = same_end k (bytes bs) (e refl) }
is_literal k (list vs) valid e = let never : None ≡ Some (e refl).low = (e refl).is_low in cc

bounded : (a b c k : LogicalType) → bounded_type (a ∷ b ∷ c ∷ []) ≡ Some k
    → (alike_types a b ≡ true) × (alike_types a c ≡ true) × (between_type a b c ≡ k)
bounded a b c k e = by (alike_types a b) (alike_types a c) e
  where
    by : (x y : Bool) → cond (x && y) (Some (between_type a b c)) None ≡ Some k
        → (x ≡ true) × (y ≡ true) × (between_type a b c ≡ k)
    by true true h = (refl, refl, cc)
    by true false h = cc
    by false y h = cc

-- the types of a call of Like
record AreTexts (a b k : LogicalType) : Type 0 where
  pub text_null : Bool
  pub pattern_null : Bool
  pub is_text : a ≡ text_type text_null
  pub is_pattern : b ≡ text_type pattern_null
  pub is_bool : bool_type (text_null || pattern_null) ≡ k

are_texts : (a b k : LogicalType) → like_type (a ∷ b ∷ []) ≡ Some k → AreTexts a b k
are_texts (text_type n) (text_type m) k e =
    record {
      text_null = n;
      pattern_null = m;
      is_text = refl;
      is_pattern = refl;
      is_bool = cc;
    }
are_texts a b k e = cc

known_high : (o q : Option Value) → o ≢ None → known_or o q ≢ None
known_high None q h = absurd (h refl)
known_high (Some v) q h = λ e. cc

text_of : (b : Bool) (bs : List ℕ) → IsValueOf (text_type b) (text bs) → IsUtf8 bs
text_of b bs h = h.typed

module _ {V O : Type 0} (m : Meaning V O) (n : ℕ) (ss : List StatisticsView)
    (base : List ColumnView) (d : DescribeAll n ss base) (some : 0 < n) where
  -- what is known of an argument
  abbrev Known : Tree V O → RangeView → Type 0
  Known t r = (k : LogicalType) → tree_type m t ≡ Some k → IsExact m n ss t k r

  abbrev Own : Tree V O → RangeView → Type 0
  Own t r = IsLeafRange {V = V} {O = O} n ss t r

  module _ (s : ScalarView) (r : RangeView) (known : Known (constant s) r)
      (own : Own (constant s) r) (valid : is_null s.value ≡ false) where
    is_known : IsLiteral s.dtype s.value
    is_known =
        is_literal s.dtype s.value valid
        (subst (λ (q : RangeView). IsExact m n ss (constant s) s.dtype q) own
        (known s.dtype refl)).ends

  pub between_call : (options : BetweenOptions) (t : Tree V O) (lower upper : ScalarView)
      (k : LogicalType) (r p q o : RangeView)
      → IsTypedCall m (ours (Between options))
      (tree t (tree (constant lower) (tree (constant upper) no_trees))) k
      → options ≡ inclusive → AreBounds lower.value upper.value
      → Known t r → Known (constant lower) p → Own (constant lower) p
      → Known (constant upper) q → Own (constant upper) q
      → o ≡ between_range options (r ∷ p ∷ q ∷ [])
      → IsExact m n ss (call (ours (Between options))
      (tree t (tree (constant lower) (tree (constant upper) no_trees)))) k o
  between_call options t lower upper k r p q o c plain bounds x y own z other is =
      let a =
      types_parts (tree_type m t) (tree_types m (tree (constant lower) (tree (constant upper) no_trees)))
      c.types c.children in
      let b = two_types (Some lower.dtype) (Some upper.dtype) a.1 a.3 in
      let low : lower.dtype ≡ b.0 = cc in
      let high : upper.dtype ≡ b.1 = cc in
      let types : a.0 ∷ lower.dtype ∷ upper.dtype ∷ [] ≡ c.types =
      (λ i. a.0 ∷ low i ∷ high i ∷ []) ∙ ap (λ (l : List LogicalType). a.0 ∷ l) b.4 ∙ a.4 in
      let returns : bounded_type (a.0 ∷ lower.dtype ∷ upper.dtype ∷ []) ≡ Some k =
      subst (λ (l : List LogicalType). bounded_type l ≡ Some k) (sym types) c.returns in
      let g = bounded a.0 lower.dtype upper.dtype k returns in
      let v = is_known lower p y own bounds.lower_valid in
      let w = is_known upper q z other bounds.upper_valid in
      let exact = x a.0 a.2 in
      let vt =
      same_values lower.dtype a.0 lower.value (y lower.dtype refl).measured
      (alike_back a.0 lower.dtype g.0) v.there in
      let wt =
      same_values upper.dtype a.0 upper.value (z upper.dtype refl).measured
      (alike_back a.0 upper.dtype g.1) w.there in
      let nullable = (is_nullable a.0 || is_nullable lower.dtype) || is_nullable upper.dtype in
      let range : betweenness inclusive (single lower.value) r (single upper.value) ≡ o =
      (λ i. betweenness (sym plain i) ((sym v.range ∙ sym own) i) r ((sym w.range ∙ sym other) i))
      ∙ sym is in
      subst (λ (b : BetweenOptions). IsExact m n ss (call (ours (Between b))
      (tree t (tree (constant lower) (tree (constant upper) no_trees)))) k o) (sym plain)
      (subst (λ (l : LogicalType). IsExact m n ss (call (ours (Between inclusive))
      (tree t (tree (constant lower) (tree (constant upper) no_trees)))) l o) g.2
      (subst (λ (l : RangeView). IsExact m n ss (call (ours (Between inclusive))
      (tree t (tree (constant lower) (tree (constant upper) no_trees)))) (bool_type nullable) l) range
      (between_exact m n ss base d some t lower upper a.0 nullable r exact vt wt bounds.ordered)))

  has_high : (p : ℕ) (name : List ℕ) (t : LogicalType) (r : RangeView) → IsCapped ss p
      → Own (leaf (place p name t)) r → r.high ≢ None
  has_high p name t r h own =
      let s = own.0 in
      let capped : known_end s.high ≢ None =
      subst (λ (o : Option StatisticsView). IfSome o (λ s. known_end s.high ≢ None)) own.1 h in
      λ e. known_high (known_end s.high) (greatest s.dtype) capped
      (sym (ap (λ (q : RangeView). q.high) own.2) ∙ e)

  pub like_call : (options : LikeOptions) (p : ℕ) (name : List ℕ) (t : LogicalType) (s : ScalarView)
      (k : LogicalType) (r q o : RangeView)
      → IsTypedCall m (ours (Like options)) (tree (leaf (place p name t)) (tree (constant s) no_trees)) k
      → IsPrefixTest options s.value → IsCapped ss p
      → Known (leaf (place p name t)) r → Own (leaf (place p name t)) r
      → Known (constant s) q → Own (constant s) q → IsPrefixRange options r q o
      → IsExact m n ss
      (call (ours (Like options)) (tree (leaf (place p name t)) (tree (constant s) no_trees))) k o
  like_call options p name t s k r q o c test capped x own y other is =
      let l : Tree V O = leaf (place p name t) in
      let a = two_types (Some t) (Some s.dtype) c.types c.children in
      let ft : t ≡ a.0 = cc in
      let gt : s.dtype ≡ a.1 = cc in
      let types : t ∷ s.dtype ∷ [] ≡ c.types = (λ i. ft i ∷ gt i ∷ []) ∙ a.4 in
      let g =
      are_texts t s.dtype k
      (subst (λ (l : List LogicalType). like_type l ≡ Some k) (sym types) c.returns) in
      let valid : is_null s.value ≡ false = ap is_null test.known in
      let v = is_known s q y other valid in
      let utf8 : IsUtf8 test.bytes =
      text_of g.pattern_null test.bytes
      (subst (λ w. IsValueOf (text_type g.pattern_null) w) test.known
      (subst (λ (z : LogicalType). IsValueOf z s.value) g.is_pattern v.there)) in
      let pattern : q ≡ only (text test.bytes) = other ∙ ap literal_range test.known in
      let range : prefix_range options test.prefix r (single (text test.bytes)) ≡ o =
      ap (prefix_range options test.prefix r) (sym pattern)
      ∙ sym (is test.plain test.bytes test.prefix pattern utf8 test.utf8 test.is) in
      let exact =
      subst (λ (z : LogicalType). IsExact m n ss l z r) g.is_text (x t refl) in
      subst (λ (z : LogicalType). IsExact m n ss (call (ours (Like options))
      (tree l (tree (constant s) no_trees))) z o) g.is_bool
      (subst (λ (z : RangeView). IsExact m n ss (call (ours (Like options))
      (tree l (tree (constant s) no_trees))) (bool_type (g.text_null || g.pattern_null)) z) range
      (like_exact m n ss base d some options test.plain l s test.bytes test.prefix test.known
      test.utf8 test.is g.text_null (g.text_null || g.pattern_null) r exact
      (has_high p name t r capped own)))
