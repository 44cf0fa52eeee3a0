-- LIKE over whole columns.
use Rattle.std.specs.Prelude.{◌≡◌, ℕ, ◌<◌, List, length, slice_index_or, Bool, false, not}
use Rattle.std.specs.Prelude.{if◌then◌else◌}
use Rattle.vortex_types.specs.LogicalTypes.{bool_type}
use Rattle.vortex_types.specs.Values.{Value, text}
use Rattle.vortex_columns.specs.ColumnView.{ColumnView, row}
use Rattle.vortex_columns.specs.ValidRows.{either_nullable}
use Rattle.vortex_like.specs.declared.options.LikeOptions.{LikeOptions}
use Rattle.vortex_like.specs.Patterns.{like, like_value}

-- a bit for each of n rows with this property
pub record AreTold (n : ℕ) (tells : ℕ → Bool → Type 0) (bits : List Bool) : Type 0 where
  pub count : length bits ≡ n
  pub each : (i : ℕ) → i < n → tells i (slice_index_or bits i false)

-- a result, negated if `negated`
abbrev pub turned : Bool → Bool → Bool
turned negated found = if negated then not found else found

-- the result of a test for a text, negated if `negated`; arbitrary where the value is no text
abbrev pub IsSaid : (List ℕ → Bool) → Bool → Value → Bool → Type 0
IsSaid answer negated (text bytes) b = b ≡ turned negated (answer bytes)
IsSaid answer negated v b = Unit {0}

-- the result of LIKE for two texts; arbitrary where a value is no text
abbrev pub IsLikeBit : LikeOptions → Value → Value → Bool → Type 0
IsLikeBit options (text bytes) (text pattern) b = b ≡ like options bytes pattern
IsLikeBit options v w b = Unit {0}

abbrev pub AreLikeBits : LikeOptions → ColumnView → ColumnView → List Bool → Type 0
AreLikeBits options l r =
    AreTold (length l.rows) (λ i b. IsLikeBit options (row l.rows i) (row r.rows i) b)

-- the same value in each row
abbrev pub IsConstantOf : Value → ColumnView → Type 0
IsConstantOf v c = (i : ℕ) → i < length c.rows → row c.rows i ≡ v

-- a column of Bool, nullable if either side is, with the result of LIKE for the two values in each
-- row
pub record HasLikeRows (options : LikeOptions) (l r c : ColumnView) : Type 0 where
  pub dtype : c.dtype ≡ bool_type (either_nullable l r)
  pub count : length c.rows ≡ length l.rows
  pub each : (i : ℕ) → i < length l.rows
      → row c.rows i ≡ like_value options (row l.rows i) (row r.rows i)
