-- The errors of columns of truth values or of integers, which are not read.
use Rattle.std.specs.Borrow.{Bor}
use Rattle.std.proofs.Common.{◌≡◌, ℕ, ◌+◌, true, Option, Some, None}
use Rattle.std.proofs.Common.{arith, List}
use Rattle.vortex_arrow.specs.declared.column.ArrowColumn.{ArrowColumn}
use Rattle.vortex_arrow.specs.declared.error.ArrowError.{ArrowError}
use Rattle.vortex_arrow.specs.declared.error.ArrowError.TheVariants as arrow
use Rattle.vortex_columns.specs.ValidityView.{ValidityView}
use Rattle.vortex_arrow.specs.Layouts.{Layout, bits, numbers, offsets, views, layout_of, HasItems}
use Rattle.vortex_arrow.specs.Layouts.{has_offsets}
use Rattle.vortex_arrow.specs.Columns.{HasBitsFor, AreValues, IsWellFormed, arrow_validity}
use Rattle.vortex_arrow.specs.Refusals.{AreLongEnough, MayBeNulls, RefusesNull, TellsOf}
use Rattle.vortex_arrow.specs.Refusals.{IsFirstMisfit}
use Rattle.yurkije_columns.specs.Checking.{is_flat_layout, IsFlat}

-- the end of a column, which has no rows
abbrev pub end_of : ArrowColumn → ArrowColumn
end_of c =
    record {
      nullable = c.nullable;
      length = 0;
      offset = c.offset + c.length;
      validity = c.validity;
      values = c.values;
    }

bits_end : (b : Option (Bor (List ℕ))) (from n : ℕ) → HasBitsFor b (from + n) 0
    → HasBitsFor b from n
bits_end None from n h = tt
bits_end (Some b) from n h = omega (arith, h)

bits_before : (b : Option (Bor (List ℕ))) (from n : ℕ) → HasBitsFor b from n
    → HasBitsFor b (from + n) 0
bits_before None from n h = tt
bits_before (Some b) from n h = omega (arith, h)

items_end : (l : Layout) (from n : ℕ) → is_flat_layout l ≡ true → HasItems l (from + n) 0
    → HasItems l from n
items_end (bits bs) from n flat h = omega (arith, h)
items_end (numbers p xs) from n flat h = omega (arith, h)
items_end (offsets t os bs) from n flat h = cc
items_end (views t vs bs) from n flat h = cc

items_before : (l : Layout) (from n : ℕ) → is_flat_layout l ≡ true → HasItems l from n
    → HasItems l (from + n) 0
items_before (bits bs) from n flat h = omega (arith, h)
items_before (numbers p xs) from n flat h = omega (arith, h)
items_before (offsets t os bs) from n flat h = cc
items_before (views t vs bs) from n flat h = cc

no_offsets : (l : Layout) → is_flat_layout l ≡ true → has_offsets l ≡ true → ⊥
no_offsets (bits bs) flat h = cc
no_offsets (numbers p xs) flat h = cc
no_offsets (offsets t os bs) flat h = cc
no_offsets (views t vs bs) flat h = cc

pub long_enough : (c : ArrowColumn) → IsFlat c → IsWellFormed (end_of c) → AreLongEnough c
long_enough c flat w = (
  bits_end c.validity c.offset c.length w.bits,
  items_end (layout_of c.values) c.offset c.length flat.values w.items,
)

no_row : (P : ℕ → Type 0) (r : ℕ) → IsFirstMisfit 0 P r → ⊥
no_row P r h = omega (arith, h.within)

room_there : (l : Layout) (v : ValidityView) (from n : ℕ) → is_flat_layout l ≡ true
    → AreValues l v from n
room_there (bits bs) v from n flat = record { lie = λ i lt. tt; room = tt; texts = λ i lt. tt }
room_there (numbers p xs) v from n flat = record { lie = λ i lt. tt; room = tt; texts = λ i lt. tt }
room_there (offsets t os bs) v from n flat = cc
room_there (views t vs bs) v from n flat = cc

-- what is wrong with the end is wrong with the column
pub tells_end : (c : ArrowColumn) (e : ArrowError) → IsFlat c → TellsOf (end_of c) e → TellsOf c e
tells_end c arrow.OutOfMemory flat h = h
tells_end c arrow.ValidityTooShort flat h = λ has.
    h (bits_before c.validity c.offset c.length has)
tells_end c arrow.ValuesTooShort flat h = (
  bits_end c.validity c.offset c.length h.0,
  h.1,
  λ has. h.2 (items_before (layout_of c.values) c.offset c.length flat.values has),
)
tells_end c arrow.OffsetsTooShort flat h =
    absurd (no_offsets (layout_of c.values) flat.values h.1)
tells_end c (arrow.UnexpectedNull r) flat h = absurd (no_row _ r h.1)
tells_end c (arrow.InvalidValue r f) flat h = absurd (no_row _ r h.2.0)
tells_end c (arrow.NotUtf8 r) flat h = absurd (no_row _ r h.2.0)
tells_end c arrow.TooLong flat h =
    absurd
    (h.2
    (room_there (layout_of c.values) (arrow_validity (end_of c)) (c.offset + c.length) 0 flat.values).room)

pub well_formed : (c : ArrowColumn) → IsFlat c → AreLongEnough c → MayBeNulls c → IsWellFormed c
well_formed c flat long nulls = record {
  bits = long.0;
  items = long.1;
  nulls = nulls;
  values = room_there (layout_of c.values) (arrow_validity c) c.offset c.length flat.values;
}

-- a null that may not be is the column's error
pub tells_null : (c : ArrowColumn) (e : ArrowError) → AreLongEnough c → RefusesNull c e → TellsOf c e
tells_null c (arrow.UnexpectedNull r) long h = (long, h)
tells_null c arrow.OutOfMemory long h = tt
tells_null c arrow.ValidityTooShort long h = absurd h
tells_null c arrow.ValuesTooShort long h = absurd h
tells_null c arrow.OffsetsTooShort long h = absurd h
tells_null c (arrow.InvalidValue r f) long h = absurd h
tells_null c (arrow.NotUtf8 r) long h = absurd h
tells_null c arrow.TooLong long h = absurd h
