-- Calls of which no more can be known than of their arguments.
use Rattle.std.specs.Prelude.{◌≡◌, ◌≢◌, ℕ, List, true, false, None, IfSome, IsUtf8, slice_get}
use Rattle.vortex_types.specs.Values.{Value, text, is_null}
use Rattle.vortex_like.specs.declared.options.LikeOptions.{LikeOptions}
use Rattle.vortex_statistics.specs.StatisticsView.{StatisticsView}
use Rattle.vortex_interface.specs.Shipped.{Between, Like}
use Rattle.vortex_interface.specs.Functions.{Function, ours}
use Rattle.vortex_interface.specs.Trees.{place, leaf, constant, Trees, no_trees, tree}
use Rattle.vortex_ranges.specs.Described.{known_end}
use Rattle.vortex_ranges.specs.Prefixes.{IsPrefixPattern}
use Rattle.vortex_ranges.specs.Ranges.{is_above}
use Rattle.vortex_ranges.specs.Reached.{inclusive}
use Rattle.vortex_pruning.specs.Exact.{is_simple}

-- two values in order
pub record AreBounds (lower upper : Value) : Type 0 where
  pub lower_valid : is_null lower ≡ false
  pub upper_valid : is_null upper ≡ false
  pub ordered : is_above lower upper ≡ false

-- a prefix, which is not empty, and `%`, and case counts
pub record IsPrefixTest (options : LikeOptions) (pattern : Value) : Type 0 where
  pub plain : options.case_insensitive ≡ false
  pub bytes : List ℕ
  pub known : pattern ≡ text bytes
  pub prefix : List ℕ
  pub utf8 : IsUtf8 prefix
  pub is : IsPrefixPattern options.escape bytes prefix

-- the high end of the column in that place is known
abbrev pub IsCapped : List StatisticsView → ℕ → Type 0
IsCapped ss p = IfSome (slice_get ss p) (λ s. known_end s.high ≢ None)

-- a simple call; BETWEEN with bounds that are literals in order, and among what lies between them;
-- or LIKE of a column whose high end is known, with such a pattern
abbrev pub IsSharpCall : {V O : Type 0} → List StatisticsView → Function V O → Trees V O → Type 0
IsSharpCall ss (ours (Between options))
    (tree t (tree (constant lower) (tree (constant upper) no_trees))) =
    (options ≡ inclusive) × AreBounds lower.value upper.value
IsSharpCall ss (ours (Like options))
    (tree (leaf (place p name t)) (tree (constant pattern) no_trees)) =
    IsPrefixTest options pattern.value × IsCapped ss p
IsSharpCall ss f ts = is_simple f ≡ true
