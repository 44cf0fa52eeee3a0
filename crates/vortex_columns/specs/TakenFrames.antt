-- A column whose rows are being taken: a frame for each column with some parts taken and one still
-- to come.
use Rattle.std.specs.Prelude.{ℕ, ◌+◌, ◌*◌, List, ◌∷◌, ◌++◌, map, All}
use Rattle.vortex_columns.specs.ColumnView.{ColumnView}
use Rattle.vortex_columns.specs.ColumnParts.{type_weight, column_weights}
use Rattle.vortex_columns.specs.Stored.{Stored, kept, Kept, structs, fixed_size_lists}
use Rattle.vortex_columns.specs.ValidityView.{validity_of}
use Rattle.vortex_columns.specs.Taken.{AreRowsOf, taken}
use Rattle.vortex_columns.specs.CopyFrames.{IsStoredUnder, stored_view}
use Rattle.vortex_columns.specs.declared.column.taken_frames.Rows.{Rows}
use Rattle.vortex_columns.specs.declared.column.taken_frames.Rows.TheVariants.{Codes, Indices}
use Rattle.vortex_columns.specs.declared.column.taken_frames.Hole.{Hole}
use Rattle.vortex_columns.specs.declared.column.taken_frames.Hole.TheVariants.{Field, FixedElement}
use Rattle.vortex_columns.specs.declared.column.taken_frames.Frame.{Frame}
use Rattle.vortex_columns.specs.declared.column.taken_frames.Step.{Step}
use Rattle.vortex_columns.specs.declared.column.taken_frames.Step.TheVariants.{Whole, Part}

-- the row numbers
abbrev pub rows_in : Rows → List ℕ
rows_in (Codes codes) = codes.now
rows_in (Indices indices) = indices.items

-- a column of taken rows, and their numbers in its source
pub record Taking : Type 0 where
  pub column : ColumnView
  pub rows : List ℕ

-- these rows of a column
abbrev pub taking : List ℕ → ColumnView → Taking
taking rows c = record { column = taken rows c; rows = rows }

-- the result once the hole is filled
abbrev pub plugged : Hole → Taking → Kept
plugged (Field fields rest) t = structs (fields.items ++ t.column ∷ map (taken t.rows) rest.now)
plugged (FixedElement size lists) t = fixed_size_lists t.column size

-- the rows taken of the column itself
abbrev pub rows_around : Hole → List ℕ → List ℕ
rows_around (Field fields rest) rows = rows
rows_around (FixedElement size lists) rows = rows_in lists

-- each remaining field has the rows
abbrev pub HaveRows : Hole → List ℕ → Type 0
HaveRows (Field fields rest) rows = All (λ c. AreRowsOf c rows) rest.now
HaveRows (FixedElement size lists) rows = Unit {0}

abbrev pub stored_in : Frame → Taking → Stored
stored_in f t = kept (plugged f.hole t) (validity_of f.validity)

pub record Fits (f : Frame) (t : Taking) : Type 0 where
  pub stored : IsStoredUnder f.head (stored_in f t)
  pub rest : HaveRows f.hole t.rows

abbrev pub filled : Frame → Taking → Taking
filled f t =
    record { column = stored_view f.head (stored_in f t); rows = rows_around f.hole t.rows }

-- the frame fits the rows that are still to be taken
abbrev pub IsSound : Step → Type 0
IsSound (Whole c rows) = Unit {0}
IsSound (Part f c rows) = Fits f (taking (rows_in rows) c.now) × AreRowsOf c.now (rows_in rows)

-- the rows that are being taken
abbrev pub step_taking : Step → Taking
step_taking (Whole c rows) = record { column = c; rows = rows_in rows }
step_taking (Part f c rows) = filled f (taking (rows_in rows) c.now)

-- how much is still to be taken
abbrev pub hole_weight : Hole → ℕ
hole_weight (Field fields rest) = 1 + 2 * column_weights rest.now
hole_weight (FixedElement size lists) = 1

abbrev pub frame_weight : Frame → ℕ
frame_weight f = hole_weight f.hole

abbrev pub step_weight : Step → ℕ
step_weight (Whole c rows) = 1
step_weight (Part f c rows) = frame_weight f + 2 * type_weight c.now.dtype
