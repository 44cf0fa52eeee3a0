-- A pattern for each row, and the last few compiled ones.
use Rattle.std.specs.Prelude.{◌≡◌, ◌<◌, ◌⊎◌, ℕ, Bool, false, string_bytes, List, [], ◌∷◌, ◌++◌}
use Rattle.std.specs.Prelude.{length, slice_set}
use Rattle.std.specs.List.{HoldsAt}
use Rattle.vortex_types.specs.Values.{is_null}
use Rattle.vortex_columns.specs.ColumnView.{row}
use Rattle.vortex_like.specs.Patterns.{pattern_of}
use Rattle.vortex_like.specs.declared.options.LikeOptions.{LikeOptions}
use Rattle.vortex_like.specs.declared.each_pattern.CompiledPattern.{CompiledPattern}
use Rattle.vortex_like.specs.declared.each_pattern.SideBySide.{SideBySide}

-- compiled from its text
abbrev pub IsCompiled : LikeOptions → Bool → CompiledPattern → Type 0
IsCompiled options ascii own =
    own.pattern ≡ pattern_of options.escape (string_bytes own.text) options.case_insensitive ascii

-- the pattern of these bytes is cached at that index
abbrev pub IsKeptAt : List ℕ → List CompiledPattern → ℕ → Type 0
IsKeptAt bytes kept at =
    (at < length kept) × HoldsAt (λ own. string_bytes own.text ≡ bytes) kept at

-- a pattern is cached at that index, as one more or replacing another
abbrev pub IsKept : CompiledPattern → ℕ → List CompiledPattern → List CompiledPattern → Type 0
IsKept own at old new =
    ((new ≡ old ++ own ∷ []) × (at ≡ length old)) ⊎ ((new ≡ slice_set old at own) × (at < length old))

-- neither side is null
abbrev pub AreBothValid : SideBySide → ℕ → Type 0
AreBothValid columns i =
    (is_null (row columns.texts.now.rows i) ≡ false)
    × (is_null (row columns.patterns.now.rows i) ≡ false)
