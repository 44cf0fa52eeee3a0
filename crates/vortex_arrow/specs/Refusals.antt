-- What is told of buffers that no column can be made of: of the validity and the values the first
-- that is too short; then the first null that may not be; then the first row whose bytes are not
-- where they should be, or are no UTF-8, or that the values are too long together.
use Rattle.std.specs.Prelude.{◌≡◌, ℕ, ◌+◌, ◌<◌, true, false, ⊤}
use Rattle.vortex_columns.specs.ValidityView.{ValidityView, is_valid_row}
use Rattle.vortex_arrow.specs.declared.column.ArrowColumn.{ArrowColumn}
use Rattle.vortex_arrow.specs.declared.error.ArrowError.{ArrowError}
use Rattle.vortex_arrow.specs.declared.error.ArrowError.TheVariants as arrow
use Rattle.vortex_arrow.specs.declared.error.ValueFault.{ValueFault}
use Rattle.vortex_arrow.specs.Layouts.{Layout, layout_of, HasItems, has_offsets, Lies}
use Rattle.vortex_arrow.specs.Layouts.{IsFault, IsTextIfValid}
use Rattle.vortex_arrow.specs.Columns.{arrow_validity, HasBitsFor, MayBeNull, HasRoom}

-- of n rows the first of which P does not hold
pub record IsFirstMisfit (n : ℕ) (P : ℕ → Type 0) (r : ℕ) : Type 0 where
  pub within : r < n
  pub misfit : ¬ P r
  pub before : (i : ℕ) → i < r → P i

-- nothing but memory is wanted
abbrev pub OnlyMemory : ArrowError → Type 0
OnlyMemory arrow.OutOfMemory = ⊤
OnlyMemory e = ⊥

-- a value is too long, or memory ran out
abbrev pub RefusesPush : Type 0 → ArrowError → Type 0
RefusesPush room arrow.TooLong = ¬ room
RefusesPush room e = OnlyMemory e

-- what is wrong with n rows, each of bytes that lie where they should and are a text if they should
-- be one, or with their lengths
abbrev pub TellsOfBytes : ℕ → (ℕ → Type 0) → (ℕ → Type 0) → (ℕ → ValueFault → Type 0)
    → Type 0 → ArrowError → Type 0
TellsOfBytes n lies texts faults room (arrow.InvalidValue r f) =
    IsFirstMisfit n (λ i. lies i × texts i) r × faults r f
TellsOfBytes n lies texts faults room (arrow.NotUtf8 r) =
    IsFirstMisfit n (λ i. lies i × texts i) r × lies r
TellsOfBytes n lies texts faults room e = RefusesPush room e

-- what is wrong with the values of n rows from one item on
abbrev pub TellsOfValues : Layout → ValidityView → ℕ → ℕ → ArrowError → Type 0
TellsOfValues l v from n e =
    TellsOfBytes n (λ i. Lies l (from + i) (is_valid_row v i))
    (λ i. IsTextIfValid l (from + i) (is_valid_row v i)) (λ i. IsFault l (from + i))
    (HasRoom l v from n) e

-- the buffers are as long as the rows
abbrev pub AreLongEnough : ArrowColumn → Type 0
AreLongEnough c =
    HasBitsFor c.validity c.offset c.length × HasItems (layout_of c.values) c.offset c.length

abbrev pub RowMayBeNull : ArrowColumn → ℕ → Type 0
RowMayBeNull c i = MayBeNull c.nullable c.validity (c.offset + i)

-- a null that may not be, or that memory ran out
abbrev pub RefusesNull : ArrowColumn → ArrowError → Type 0
RefusesNull c (arrow.UnexpectedNull r) = IsFirstMisfit c.length (RowMayBeNull c) r
RefusesNull c e = OnlyMemory e

-- the validity is too short, or the values
abbrev pub TellsOfLength : ArrowColumn → ArrowError → Type 0
TellsOfLength c arrow.ValidityTooShort = ¬ HasBitsFor c.validity c.offset c.length
TellsOfLength c arrow.ValuesTooShort = HasBitsFor c.validity c.offset c.length
    × (has_offsets (layout_of c.values) ≡ false)
    × ¬ HasItems (layout_of c.values) c.offset c.length
TellsOfLength c arrow.OffsetsTooShort = HasBitsFor c.validity c.offset c.length
    × (has_offsets (layout_of c.values) ≡ true)
    × ¬ HasItems (layout_of c.values) c.offset c.length
TellsOfLength c e = ⊥

abbrev pub MayBeNulls : ArrowColumn → Type 0
MayBeNulls c = (i : ℕ) → i < c.length → RowMayBeNull c i

-- what is wrong with buffers, or that memory ran out
abbrev pub TellsOf : ArrowColumn → ArrowError → Type 0
TellsOf c arrow.OutOfMemory = ⊤
TellsOf c arrow.ValidityTooShort = TellsOfLength c arrow.ValidityTooShort
TellsOf c arrow.ValuesTooShort = TellsOfLength c arrow.ValuesTooShort
TellsOf c arrow.OffsetsTooShort = TellsOfLength c arrow.OffsetsTooShort
TellsOf c (arrow.UnexpectedNull r) = AreLongEnough c × RefusesNull c (arrow.UnexpectedNull r)
TellsOf c e = AreLongEnough c × MayBeNulls c
    × TellsOfValues (layout_of c.values) (arrow_validity c) c.offset c.length e
