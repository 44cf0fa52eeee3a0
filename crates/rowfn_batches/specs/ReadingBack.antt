-- Whether the output of a program reads back, and that the rows of its answers do.
use Rattle.std.specs.Prelude.{◌≡◌, ◌≢◌, ◌==◌, ◌&&◌, ◌∷◌, ◌++◌, [], ℕ, List, Bool, true, false, not}
use Rattle.std.specs.Prelude.{Option, Some, None, map, length, if◌then◌else◌, ◌⊎◌}
use Rattle.std.specs.Prelude.{string_bytes}
use Rattle.vortex_types.specs.LogicalTypes.{LogicalType, is_nullable}
use Rattle.vortex_types.specs.Values.{Value, is_null}
use Rattle.vortex_columns.specs.ColumnView.{ColumnView, row}
use Rattle.vortex_interface.specs.Eval.{tree_type}
use Rattle.vortex_standard.specs.Standard.{standard_meaning}
use Rattle.vortex_program.specs.declared.answer.Answer.{Answer}
use Rattle.rowfn_csv.specs.declared.format.Format.{Format}
use Rattle.rowfn_batches.specs.declared.settings.Settings.{Settings}
use Rattle.rowfn_csv.specs.RoundTrip.{CanReadBack, SaysCells, cell_read}
use Rattle.rowfn_batches.specs.Names.{names_of, AreApart, RefusesNames}
use Rattle.rowfn_batches.specs.Outputs.{row_line}
use Rattle.rowfn_batches.specs.Printing.{field_text}
use Rattle.rowfn_batches.specs.declared.errors.StreamError.{StreamError}
use Rattle.rowfn_batches.specs.declared.errors.StreamError.TheVariants as end

abbrev pub allows_null : Option LogicalType → Bool
allows_null None = false
allows_null (Some t) = is_nullable t

-- the rows of the answer of that name are told to be lost
abbrev pub TellsLost : List ℕ → StreamError → Type 0
TellsLost name (end.RowsLost told) = string_bytes told ≡ name
TellsLost name e = ⊥

module _ (format : Format) where
  -- a null that stands alone is an empty line, and that is passed over
  abbrev pub loses_nulls : Bool
  loses_nulls = (length format.null.now == 0) && not format.blank_rows

  -- the answer may be null, and its null is lost where it stands alone
  abbrev pub may_be_lost : Answer → Bool
  may_be_lost a = loses_nulls && allows_null (tree_type standard_meaning a.tree)

  -- no row of the answers is lost
  abbrev pub KeepsRows : List Answer → Type 0
  KeepsRows answers = (a : Answer) → answers ≡ a ∷ [] → may_be_lost a ≡ false

  -- the only answer, whose null is lost, is told by its name; or memory ran out
  pub data RefusesRows (answers : List Answer) (e : StreamError) : Type 0 where
    is_lost : (a : Answer) → answers ≡ a ∷ [] → may_be_lost a ≡ true
        → TellsLost (string_bytes a.name) e → RefusesRows answers e
    without_memory : e ≡ end.OutOfMemory → RefusesRows answers e

  abbrev pub RefusesReadingBack : List Answer → StreamError → Type 0
  RefusesReadingBack answers e = RefusesNames (names_of answers) e ⊎ RefusesRows answers e

-- what is written of the answers reads back: no two have one name, and no row is lost, which none
-- is
-- that has fields of its own before them
pub record ReadsBack (settings : Settings) (answers : List Answer) : Type 0 where
  pub names : AreApart (names_of answers)
  pub rows : settings.appends ≡ false → KeepsRows settings.format answers

-- a value as a cell: nothing for null
abbrev pub cell_of : Value → Option (List ℕ)
cell_of v = if is_null v then None else Some (field_text v)

-- the cells of a row
abbrev pub row_cells : List ColumnView → ℕ → List (Option (List ℕ))
row_cells answers i = map (λ c. cell_of (row c.rows i)) answers

-- the line of a row, without its end, says the row's cells, as they are read
pub record RowSaysCells (format : Format) (answers : List ColumnView) (i : ℕ) : Type 0 where
  pub line : List ℕ
  pub ended : row_line format answers i ≡ line ++ (10 ∷ [])
  pub says : SaysCells format line (map (cell_read format) (row_cells answers i))

-- rows that are written are read as their cells, but for texts that are null in quotes too
abbrev pub RowsReadBack : Type 0
RowsReadBack =
    (format : Format) (answers : List ColumnView) (i : ℕ) → CanReadBack format → answers ≢ []
    → RowSaysCells format answers i
