-- What is counted and told of rows that are refused.
use Rattle.std.specs.Prelude.{◌≡◌, ◌++◌, ◌∷◌, [], ◌⊎◌, ℕ, ◌+◌, ◌-◌, ◌^◌, min, ⊤, List, Bool, Option}
use Rattle.std.specs.Prelude.{if◌then◌else◌, codes, decimal, unwrap_or}
use Rattle.std.specs.Io.KnownBytes.{Appends}
use Rattle.rowfn_batches.specs.Endings.{row_told}
use Rattle.rowfn_batches.specs.declared.errors.StreamError.{StreamError}
use Rattle.rowfn_batches.specs.declared.errors.StreamError.TheVariants as end

-- one more; it stays at the greatest
abbrev pub one_more_counted : ℕ → ℕ
one_more_counted n = min (n + 1) (2 ^ 64 - 1)

-- it was not told which row is refused: that could not be written, or memory ran out
abbrev pub IsUntold : StreamError → Type 0
IsUntold (end.Writing e) = ⊤
IsUntold end.OutOfMemory = ⊤
IsUntold e = ⊥

-- the names of the columns, as a line, and a line feed
abbrev pub header_line : List ℕ
header_line = codes "row,column,reason,field" ++ (10 ∷ [])

-- what is put down before the lines of rows, unless it was
abbrev pub header_before : Bool → List ℕ
header_before was_told = if was_told then [] else header_line

-- the number of the row that an error refuses, 0 where it refuses none
abbrev pub row_shown : StreamError → ℕ
row_shown e = unwrap_or (row_told e) 0

-- a line that tells of a row stands behind others, and behind the header: it begins with the row's
-- number, and ends
pub record AddsLine (was_told : Bool) (e : StreamError) (old new : List ℕ) : Type 0 where
  pub told : List ℕ
  pub added : new ≡ old ++ (header_before was_told ++ (decimal (row_shown e) ++ (44 ∷ told)))

-- lines are held, or they are written
abbrev pub HeldOrWritten : List ℕ → List ℕ → Option (List ℕ) → Option (List ℕ) → Type 0
HeldOrWritten lines held before after =
    ((held ≡ lines) × (after ≡ before)) ⊎ ((held ≡ []) × Appends before after lines)

-- a row is told: its line comes behind those that are held, and they are held or written
pub record TellsRow (was_told : Bool) (e : StreamError) (old held : List ℕ)
    (before after : Option (List ℕ)) : Type 0 where
  pub lines : List ℕ
  pub line : AddsLine was_told e old lines
  pub kept : HeldOrWritten lines held before after
