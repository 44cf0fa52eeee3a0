-- The words in which columns and fields that are wrong are told, and words in the caller's bytes.
use Rattle.std.specs.Prelude.{◌≡◌, ◌≤◌, ◌<◌, ◌+◌, ◌-◌, ◌++◌, ℕ, List, [], nat_lt, codes}
use Rattle.std.specs.Prelude.{if◌then◌else◌, take, length, slice_index_or}
use Rattle.std.specs.Fmt.{decimal}
use Rattle.std.specs.Str.{IsCharBoundary}
use Rattle.vortex_types.specs.LogicalTypes.{Fields, field_count}
use Rattle.vortex_types.specs.FieldNames.{field_name}
use Rattle.vortex_arrow.specs.Texts.{arrow_text}
use Rattle.vortex_arrow.specs.Written.{SameBehind}
use Rattle.yurkije_columns.specs.declared.batch.ColumnFault.{ColumnFault}
use Rattle.yurkije_columns.specs.declared.batch.ColumnFault.TheVariants as column
use Rattle.yurkije_columns.specs.declared.fields.ScopeFault.{ScopeFault}
use Rattle.yurkije_columns.specs.declared.fields.ScopeFault.TheVariants as scope
use Rattle.yurkije_columns.specs.declared.borrowed.BorrowedError.{BorrowedError}
use Rattle.yurkije_columns.specs.declared.borrowed.BorrowedError.TheVariants as borrowed

-- memory ran out
abbrev pub memory_words : List ℕ
memory_words = codes "out of memory"

-- what is wrong with a field, by its number
abbrev pub scope_words : ℕ → ScopeFault → List ℕ
scope_words k scope.UnknownKind = codes "field " ++ decimal k ++ codes ": no kind has that number"
scope_words k scope.NotUtf8 = codes "field " ++ decimal k ++ codes ": its name is not UTF-8"
scope_words k scope.NameTwice =
    codes "field " ++ decimal k ++ codes ": a field before it has its name"
scope_words k scope.OutOfMemory = memory_words

-- why columns are not taken
abbrev pub borrowed_words : BorrowedError → List ℕ
borrowed_words (borrowed.UnknownKind k) = codes "column " ++ decimal k ++ codes ": no kind has that number"
borrowed_words borrowed.OutOfMemory = memory_words

-- the name of a field, or none where there is no such field
abbrev pub name_of_field : Fields → ℕ → List ℕ
name_of_field fields k = if nat_lt k (field_count fields) then field_name k fields else []

-- of a column of that number and name
abbrev pub named_words : ℕ → List ℕ → List ℕ → List ℕ
named_words k name words =
    codes "column " ++ (decimal k ++ (codes " (" ++ (name ++ (codes "): " ++ words))))

-- what is wrong with a column of a batch of n rows
abbrev pub fault_words : ℕ → List ℕ → ℕ → ColumnFault → List ℕ
fault_words k name n column.Missing = named_words k name (codes "missing")
fault_words k name n column.Unasked =
    codes "column " ++ decimal k ++ codes ": there is no field for it"
fault_words k name n column.OtherType = named_words k name (codes "of another type than the field")
fault_words k name n (column.OtherLength rows) =
    named_words k name (decimal rows ++ (codes " rows in a batch of " ++ decimal n))
fault_words k name n (column.Unread e) = named_words k name (arrow_text e)

-- n bytes of the words stand in the caller's, a NUL behind them, and what is behind that is as it
-- was: as many whole characters as there is room for
pub record IsMessage (words old new : List ℕ) (n : ℕ) : Type 0 where
  pub room : n ≤ length old - 1
  pub boundary : IsCharBoundary words n
  pub most : (i : ℕ) → n < i → i ≤ length old - 1 → ¬ IsCharBoundary words i
  pub written : take n new ≡ take n words
  pub ended : 0 < length old → slice_index_or new n 1 ≡ 0
  pub behind : SameBehind (n + 1) old new
