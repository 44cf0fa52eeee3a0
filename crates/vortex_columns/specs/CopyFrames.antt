-- A column that is being copied: a frame for each column with some parts copied and one still to
-- come.
use Rattle.std.specs.Prelude.{ℕ, ◌+◌, ◌*◌, ◌∷◌, ◌++◌}
use Rattle.vortex_types.specs.TypeOf.{type_of}
use Rattle.vortex_columns.specs.ColumnView.{ColumnView}
use Rattle.vortex_columns.specs.ColumnParts.{type_weight, column_weights}
use Rattle.vortex_columns.specs.Stored.{Stored, kept, Kept, structs, lists, fixed_size_lists, maps}
use Rattle.vortex_columns.specs.Stored.{IsStored, constant_in, rows_of, stored_validity}
use Rattle.vortex_columns.specs.ValidityView.{validity_of}
use Rattle.vortex_columns.specs.declared.column.copies.Head.{Head}
use Rattle.vortex_columns.specs.declared.column.copies.Hole.{Hole}
use Rattle.vortex_columns.specs.declared.column.copies.Hole.TheVariants.{Field, Element}
use Rattle.vortex_columns.specs.declared.column.copies.Hole.TheVariants.{FixedElement, Key, Value}
use Rattle.vortex_columns.specs.declared.column.copies.Frame.{Frame}
use Rattle.vortex_columns.specs.declared.column.copies.Step.{Step}
use Rattle.vortex_columns.specs.declared.column.copies.Step.TheVariants.{Whole, Part}

abbrev pub IsStoredUnder : Head → Stored → Type 0
IsStoredUnder h s = IsStored h.len (type_of h.dtype) s

abbrev pub stored_view : Head → Stored → ColumnView
stored_view h s =
    record {
      dtype = type_of h.dtype;
      rows = rows_of h.len s;
      constant = constant_in s;
      form = (stored_validity s).form;
    }

-- the result once the hole is filled
abbrev pub plugged : Hole → ColumnView → Kept
plugged (Field copies rest) c = structs (copies.items ++ c ∷ rest.now)
plugged (Element alloc offsets sizes) c = lists c offsets.items sizes.items
plugged (FixedElement alloc size) c = fixed_size_lists c size
plugged (Key alloc values offsets sizes) c = maps c values.now offsets.items sizes.items
plugged (Value alloc keys offsets sizes) c = maps keys c offsets.items sizes.items

abbrev pub stored_in : Frame → ColumnView → Stored
stored_in f c = kept (plugged f.hole c) (validity_of f.validity)

abbrev pub Fits : Frame → ColumnView → Type 0
Fits f c = IsStoredUnder f.head (stored_in f c)

abbrev pub filled : Frame → ColumnView → ColumnView
filled f c = stored_view f.head (stored_in f c)

abbrev pub IsSound : Step → Type 0
IsSound (Whole c) = Unit {0}
IsSound (Part f c) = Fits f c.now

-- the column that is copied
abbrev pub step_view : Step → ColumnView
step_view (Whole c) = c
step_view (Part f c) = filled f c.now

-- how much is still to be copied
abbrev pub hole_weight : Hole → ℕ
hole_weight (Field copies rest) = 1 + 2 * column_weights rest.now
hole_weight (Key alloc values offsets sizes) = 1 + 2 * type_weight values.now.dtype
hole_weight hole = 1

abbrev pub frame_weight : Frame → ℕ
frame_weight f = hole_weight f.hole

abbrev pub step_weight : Step → ℕ
step_weight (Whole c) = 1
step_weight (Part f c) = frame_weight f + 2 * type_weight c.now.dtype
