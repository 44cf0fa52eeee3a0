-- Answers copied into the caller's buffers.
use Rattle.std.specs.Prelude.{◌≡◌, ◌⊎◌, ◌+◌, ◌^◌, ◌≤◌, ℕ, pos, true, false, List, [], map, length}
use Rattle.std.specs.Prelude.{Some, None}
use Rattle.std.specs.Borrow.{MutBor}
use Rattle.vortex_types.specs.declared.dtype.PType.{PType}
use Rattle.vortex_types.specs.declared.dtype.PType.TheVariants.{I8, I16, I32, I64, U8, U16, U32}
use Rattle.vortex_types.specs.declared.dtype.PType.TheVariants.{U64}
use Rattle.vortex_types.specs.LogicalTypes.{LogicalType, bool_type, integer_type, text_type}
use Rattle.vortex_types.specs.LogicalTypes.{bytes_type, is_nullable, is_bool_type}
use Rattle.vortex_columns.specs.ColumnView.{ColumnView, IsIntegerType}
use Rattle.vortex_arrow.specs.Layouts.{Layout, bits, numbers, offsets}
use Rattle.vortex_arrow.specs.Written.{bytes_for, SameBehind, AreCopied, joined, RefusesValues}
use Rattle.vortex_arrow.specs.Written.{RefusesTexts}
use Rattle.vortex_arrow.specs.declared.error.CopyError.{CopyError}
use Rattle.vortex_arrow.specs.declared.error.CopyError.TheVariants.{OtherType, TooLong}
use Rattle.yurkije_columns.specs.declared.kinds.Kind.{Kind}
use Rattle.yurkije_columns.specs.declared.kinds.Kind.TheVariants as kind
use Rattle.yurkije_columns.specs.declared.outputs.Size.{Size}
use Rattle.yurkije_columns.specs.declared.outputs.Room.{Room}
use Rattle.yurkije_columns.specs.declared.outputs.RoomError.{RoomError}
use Rattle.yurkije_columns.specs.declared.outputs.RoomError.TheVariants as error
use Rattle.yurkije_columns.specs.Kinds.{kind_numbered, kind_type, type_number, logical_number}
use Rattle.vortex_types.specs.Values.{Value}
use Rattle.vortex_arrow.specs.Floats.{with_number, wide_pattern, narrow_pattern}

-- how many values n rows of a type take, and offsets
abbrev pub values_taken : LogicalType → ℕ → ℕ
values_taken (bool_type m) n = bytes_for n
values_taken (integer_type p m) n = n
values_taken t n = 0

abbrev pub offsets_taken : LogicalType → ℕ → ℕ
offsets_taken (text_type m) n = n + 1
offsets_taken (bytes_type m) n = n + 1
offsets_taken t n = 0

-- the bytes of texts and byte strings
abbrev pub data_taken : LogicalType → ℕ → ℕ
data_taken (text_type m) n = n
data_taken (bytes_type m) n = n
data_taken t n = 0

pub record IsSize (c : ColumnView) (s : Size) : Type 0 where
  pub rows : s.rows ≡ length c.rows
  pub validity : s.validity ≡ bytes_for (length c.rows)
  pub values : s.values ≡ values_taken c.dtype (length c.rows)
  pub offsets : s.offsets ≡ offsets_taken c.dtype (length c.rows)
  pub bytes : s.data ≡ data_taken c.dtype (length (joined c.rows))

-- a column of a type that has no kind, or texts with more bytes or rows than a usize counts
abbrev pub RefusesSize : ColumnView → CopyError → Type 0
RefusesSize c OtherType = type_number c.dtype ≡ 0
RefusesSize c TooLong = (2 ^ 64 ≤ length (joined c.rows)) ⊎ (2 ^ 64 ≤ length c.rows + 1)
RefusesSize c e = ⊥

-- what the buffers of that kind say
abbrev pub room_layout : Kind → Room → Layout
room_layout kind.Bool r = bits r.bools.now
room_layout kind.I8 r = numbers I8 (map (λ x. x) r.i8s.now)
room_layout kind.I16 r = numbers I16 (map (λ x. x) r.i16s.now)
room_layout kind.I32 r = numbers I32 (map (λ x. x) r.i32s.now)
room_layout kind.I64 r = numbers I64 (map (λ x. x) r.i64s.now)
room_layout kind.U8 r = numbers U8 (map pos r.u8s.now)
room_layout kind.U16 r = numbers U16 (map pos r.u16s.now)
room_layout kind.U32 r = numbers U32 (map pos r.u32s.now)
room_layout kind.U64 r = numbers U64 (map pos r.u64s.now)
room_layout kind.Utf8 r = offsets true (map (λ x. x) r.offsets32.now) r.data.now
room_layout kind.LargeUtf8 r = offsets true (map (λ x. x) r.offsets64.now) r.data.now
room_layout kind.Binary r = offsets false (map (λ x. x) r.offsets32.now) r.data.now
room_layout kind.LargeBinary r = offsets false (map (λ x. x) r.offsets64.now) r.data.now
room_layout kind.F64 r = numbers I64 (map (λ x. x) r.i64s.now)
room_layout kind.F32 r = numbers I32 (map (λ x. x) r.i32s.now)
room_layout kind.Date r = numbers I32 (map (λ x. x) r.i32s.now)
room_layout kind.Timestamp r = numbers I64 (map (λ x. x) r.i64s.now)
room_layout (kind.Decimal p s) r = numbers I64 (map (λ x. x) r.i64s.now)
room_layout k r = bits []

-- the rows that they say: of floats the patterns, whose keys are the rows of the column
abbrev pub room_rows : Kind → List Value → List Value
room_rows kind.F64 rows = map (with_number wide_pattern) rows
room_rows kind.F32 rows = map (with_number narrow_pattern) rows
room_rows k rows = rows

-- behind the rows of a column the buffers of that kind stay as they were
abbrev pub KeepsBehind : Kind → ColumnView → Room → Room → Type 0
KeepsBehind kind.Bool c r s = SameBehind (bytes_for (length c.rows)) r.bools.now s.bools.now
KeepsBehind kind.I8 c r s = SameBehind (length c.rows) r.i8s.now s.i8s.now
KeepsBehind kind.I16 c r s = SameBehind (length c.rows) r.i16s.now s.i16s.now
KeepsBehind kind.I32 c r s = SameBehind (length c.rows) r.i32s.now s.i32s.now
KeepsBehind kind.I64 c r s = SameBehind (length c.rows) r.i64s.now s.i64s.now
KeepsBehind kind.U8 c r s = SameBehind (length c.rows) r.u8s.now s.u8s.now
KeepsBehind kind.U16 c r s = SameBehind (length c.rows) r.u16s.now s.u16s.now
KeepsBehind kind.U32 c r s = SameBehind (length c.rows) r.u32s.now s.u32s.now
KeepsBehind kind.U64 c r s = SameBehind (length c.rows) r.u64s.now s.u64s.now
KeepsBehind kind.F64 c r s = SameBehind (length c.rows) r.i64s.now s.i64s.now
KeepsBehind kind.F32 c r s = SameBehind (length c.rows) r.i32s.now s.i32s.now
KeepsBehind kind.Date c r s = SameBehind (length c.rows) r.i32s.now s.i32s.now
KeepsBehind kind.Timestamp c r s = SameBehind (length c.rows) r.i64s.now s.i64s.now
KeepsBehind (kind.Decimal p q) c r s = SameBehind (length c.rows) r.i64s.now s.i64s.now
KeepsBehind kind.LargeUtf8 c r s =
    SameBehind (length c.rows + 1) r.offsets64.now s.offsets64.now
    × SameBehind (length (joined c.rows)) r.data.now s.data.now
KeepsBehind kind.LargeBinary c r s =
    SameBehind (length c.rows + 1) r.offsets64.now s.offsets64.now
    × SameBehind (length (joined c.rows)) r.data.now s.data.now
KeepsBehind k c r s =
    SameBehind (length c.rows + 1) r.offsets32.now s.offsets32.now
    × SameBehind (length (joined c.rows)) r.data.now s.data.now

-- the same borrowed slice with other items
abbrev pub holding : {A : Type 0} → MutBor A → A → MutBor A
holding b xs = record b { now = xs }

-- the room with another validity and other texts
abbrev pub with_offsets32 : Room → Room → Room
with_offsets32 r s =
    record r {
      validity = holding r.validity s.validity.now;
      offsets32 = holding r.offsets32 s.offsets32.now;
      «data» = holding r.data s.data.now;
    }

abbrev pub with_offsets64 : Room → Room → Room
with_offsets64 r s =
    record r {
      validity = holding r.validity s.validity.now;
      offsets64 = holding r.offsets64 s.offsets64.now;
      «data» = holding r.data s.data.now;
    }

-- the room with another validity and other values in the buffers of a kind: the other buffers are
-- as they were, and each is borrowed where it was
abbrev pub with_buffers : Kind → Room → Room → Room
with_buffers kind.Bool r s =
    record r { validity = holding r.validity s.validity.now; bools = holding r.bools s.bools.now }
with_buffers kind.I8 r s =
    record r { validity = holding r.validity s.validity.now; i8s = holding r.i8s s.i8s.now }
with_buffers kind.I16 r s =
    record r { validity = holding r.validity s.validity.now; i16s = holding r.i16s s.i16s.now }
with_buffers kind.I32 r s =
    record r { validity = holding r.validity s.validity.now; i32s = holding r.i32s s.i32s.now }
with_buffers kind.I64 r s =
    record r { validity = holding r.validity s.validity.now; i64s = holding r.i64s s.i64s.now }
with_buffers kind.U8 r s =
    record r { validity = holding r.validity s.validity.now; u8s = holding r.u8s s.u8s.now }
with_buffers kind.U16 r s =
    record r { validity = holding r.validity s.validity.now; u16s = holding r.u16s s.u16s.now }
with_buffers kind.U32 r s =
    record r { validity = holding r.validity s.validity.now; u32s = holding r.u32s s.u32s.now }
with_buffers kind.U64 r s =
    record r { validity = holding r.validity s.validity.now; u64s = holding r.u64s s.u64s.now }
with_buffers kind.F64 r s =
    record r { validity = holding r.validity s.validity.now; i64s = holding r.i64s s.i64s.now }
with_buffers kind.F32 r s =
    record r { validity = holding r.validity s.validity.now; i32s = holding r.i32s s.i32s.now }
with_buffers kind.Date r s =
    record r { validity = holding r.validity s.validity.now; i32s = holding r.i32s s.i32s.now }
with_buffers kind.Timestamp r s =
    record r { validity = holding r.validity s.validity.now; i64s = holding r.i64s s.i64s.now }
with_buffers (kind.Decimal p q) r s =
    record r { validity = holding r.validity s.validity.now; i64s = holding r.i64s s.i64s.now }
with_buffers kind.Utf8 r s = with_offsets32 r s
with_buffers kind.Binary r s = with_offsets32 r s
with_buffers kind.LargeUtf8 r s = with_offsets64 r s
with_buffers kind.LargeBinary r s = with_offsets64 r s
with_buffers k r s = r

-- each buffer is borrowed where it was
pub record KeepsLoans (old new : Room) : Type 0 where
  pub validity : new.validity.ghost_name ≡ old.validity.ghost_name
  pub bools : new.bools.ghost_name ≡ old.bools.ghost_name
  pub i8s : new.i8s.ghost_name ≡ old.i8s.ghost_name
  pub i16s : new.i16s.ghost_name ≡ old.i16s.ghost_name
  pub i32s : new.i32s.ghost_name ≡ old.i32s.ghost_name
  pub i64s : new.i64s.ghost_name ≡ old.i64s.ghost_name
  pub u8s : new.u8s.ghost_name ≡ old.u8s.ghost_name
  pub u16s : new.u16s.ghost_name ≡ old.u16s.ghost_name
  pub u32s : new.u32s.ghost_name ≡ old.u32s.ghost_name
  pub u64s : new.u64s.ghost_name ≡ old.u64s.ghost_name
  pub offsets32 : new.offsets32.ghost_name ≡ old.offsets32.ghost_name
  pub offsets64 : new.offsets64.ghost_name ≡ old.offsets64.ghost_name
  pub bytes : new.data.ghost_name ≡ old.data.ghost_name

-- the rows of the column stand in the buffers of that kind, texts one behind another, and nothing
-- else has changed
pub record StandsIn (k : Kind) (c : ColumnView) (old new : Room) : Type 0 where
  pub rows : AreCopied (room_rows k c.rows) new.validity.now (room_layout k new)
  pub validity : SameBehind (bytes_for (length c.rows)) old.validity.now new.validity.now
  pub values : KeepsBehind k c old new
  pub only : new ≡ with_buffers k old new

-- why integers of a type are not copied into a room for so many
abbrev pub RefusesIntegers : PType → ColumnView → Room → ℕ → CopyError → Type 0
RefusesIntegers p c r items e =
    RefusesValues (IsIntegerType p c.dtype) (bytes_for (length c.rows)) (length r.validity.now)
    (length c.rows) items e

-- why texts are not copied into a room for so many offsets, of which the greatest is the most
abbrev pub RefusesOffsets : ColumnView → Room → ℕ → ℕ → CopyError → Type 0
RefusesOffsets c r items most e =
    RefusesTexts c (length r.validity.now) items (length r.data.now) most e

-- why a column is not copied into the buffers of that kind
abbrev pub RefusesRoom : Kind → ColumnView → Room → CopyError → Type 0
RefusesRoom kind.Bool c r e =
    let n = bytes_for (length c.rows) in
    RefusesValues (is_bool_type c.dtype ≡ true) n (length r.validity.now) n
    (length r.bools.now) e
RefusesRoom kind.I8 c r e = RefusesIntegers I8 c r (length r.i8s.now) e
RefusesRoom kind.I16 c r e = RefusesIntegers I16 c r (length r.i16s.now) e
RefusesRoom kind.I32 c r e = RefusesIntegers I32 c r (length r.i32s.now) e
RefusesRoom kind.I64 c r e = RefusesIntegers I64 c r (length r.i64s.now) e
RefusesRoom kind.U8 c r e = RefusesIntegers U8 c r (length r.u8s.now) e
RefusesRoom kind.U16 c r e = RefusesIntegers U16 c r (length r.u16s.now) e
RefusesRoom kind.U32 c r e = RefusesIntegers U32 c r (length r.u32s.now) e
RefusesRoom kind.U64 c r e = RefusesIntegers U64 c r (length r.u64s.now) e
RefusesRoom kind.Utf8 c r e = RefusesOffsets c r (length r.offsets32.now) 2147483647 e
RefusesRoom kind.Binary c r e = RefusesOffsets c r (length r.offsets32.now) 2147483647 e
RefusesRoom kind.LargeUtf8 c r e =
    RefusesOffsets c r (length r.offsets64.now) 9223372036854775807 e
RefusesRoom kind.LargeBinary c r e =
    RefusesOffsets c r (length r.offsets64.now) 9223372036854775807 e
RefusesRoom kind.F64 c r e = RefusesIntegers I64 c r (length r.i64s.now) e
RefusesRoom kind.F32 c r e = RefusesIntegers I32 c r (length r.i32s.now) e
RefusesRoom kind.Date c r e = RefusesIntegers I32 c r (length r.i32s.now) e
RefusesRoom kind.Timestamp c r e = RefusesIntegers I64 c r (length r.i64s.now) e
RefusesRoom (kind.Decimal p s) c r e = RefusesIntegers I64 c r (length r.i64s.now) e
RefusesRoom kind.Utf8View c r e = e ≡ OtherType
RefusesRoom kind.BinaryView c r e = e ≡ OtherType

-- values of the kind have the type of the column
abbrev pub IsOfKind : Kind → LogicalType → Type 0
IsOfKind k t = kind_type k (is_nullable t) ≡ t

-- and mean what the number says
abbrev pub IsOfMeaning : Kind → ℕ → LogicalType → Type 0
IsOfMeaning k m t = IsOfKind k t × (logical_number k ≡ m)

-- the room's kind is that of the column, whose rows stand in its buffers
pub record IsCopied (c : ColumnView) (m : ℕ) (old new : Room) : Type 0 where
  pub kind : Kind
  pub numbered : kind_numbered old.kind ≡ Some kind
  pub dtype : IsOfKind kind c.dtype
  pub means : logical_number kind ≡ m
  pub stands : StandsIn kind c old new

-- the room's kind is none or another than the column's, or a buffer is too short
abbrev pub RefusesCopy : ColumnView → ℕ → Room → RoomError → Type 0
RefusesCopy c m r error.UnknownKind = kind_numbered r.kind ≡ None
RefusesCopy c m r (error.Uncopied e) =
    (k : Kind) × (kind_numbered r.kind ≡ Some k)
    × (((e ≡ OtherType) × ¬ IsOfMeaning k m c.dtype)
    ⊎ (IsOfMeaning k m c.dtype × RefusesRoom k c r e))
