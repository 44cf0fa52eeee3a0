-- What a column that C lends says.
use Rattle.std.specs.Prelude.{◌≡◌, ◌≢◌, ◌<◌, ℕ, pos, List, [], ◌∷◌, map, Option, Some, None}
use Rattle.std.specs.Prelude.{Bool, true, false, option_map, slice_get, slice_index_or, ⊤}
use Rattle.vortex_types.specs.declared.dtype.PType.TheVariants.{I8, I16, I32, I64, U8, U16, U32}
use Rattle.vortex_types.specs.declared.dtype.PType.TheVariants.{U64}
use Rattle.vortex_arrow.specs.Layouts.{Layout, bits, numbers, offsets, views, layout_of}
use Rattle.vortex_arrow.specs.Values.{buffers_of}
use Rattle.vortex_arrow.specs.Floats.{wide_key, narrow_key}
use Rattle.vortex_arrow.specs.declared.column.ArrowColumn.{ArrowColumn}
use Rattle.yurkije_columns.specs.declared.kinds.Kind.{Kind}
use Rattle.yurkije_columns.specs.declared.kinds.Kind.TheVariants as kind
use Rattle.yurkije_columns.specs.declared.borrowed.BorrowedColumn.{BorrowedColumn}
use Rattle.yurkije_columns.specs.declared.borrowed.BorrowedError.{BorrowedError}
use Rattle.yurkije_columns.specs.declared.borrowed.BorrowedError.TheVariants as error
use Rattle.yurkije_columns.specs.Kinds.{kind_numbered, logical_number, values_number}

-- the slices that are read of a column of that kind
abbrev pub borrowed_layout : Kind → BorrowedColumn → Layout
borrowed_layout kind.Bool c = bits c.bools.now
borrowed_layout kind.I8 c = numbers I8 (map (λ x. x) c.i8s.now)
borrowed_layout kind.I16 c = numbers I16 (map (λ x. x) c.i16s.now)
borrowed_layout kind.I32 c = numbers I32 (map (λ x. x) c.i32s.now)
borrowed_layout kind.I64 c = numbers I64 (map (λ x. x) c.i64s.now)
borrowed_layout kind.U8 c = numbers U8 (map pos c.u8s.now)
borrowed_layout kind.U16 c = numbers U16 (map pos c.u16s.now)
borrowed_layout kind.U32 c = numbers U32 (map pos c.u32s.now)
borrowed_layout kind.U64 c = numbers U64 (map pos c.u64s.now)
borrowed_layout kind.Utf8 c = offsets true (map (λ x. x) c.offsets32.now) c.data.now
borrowed_layout kind.LargeUtf8 c = offsets true (map (λ x. x) c.offsets64.now) c.data.now
borrowed_layout kind.Utf8View c = views true c.views.now (buffers_of c.buffers.now)
borrowed_layout kind.Binary c = offsets false (map (λ x. x) c.offsets32.now) c.data.now
borrowed_layout kind.LargeBinary c = offsets false (map (λ x. x) c.offsets64.now) c.data.now
borrowed_layout kind.BinaryView c = views false c.views.now (buffers_of c.buffers.now)
borrowed_layout kind.F64 c = numbers I64 (map wide_key c.i64s.now)
borrowed_layout kind.F32 c = numbers I32 (map narrow_key c.i32s.now)
borrowed_layout kind.Date c = numbers I32 (map (λ x. x) c.i32s.now)
borrowed_layout kind.Timestamp c = numbers I64 (map (λ x. x) c.i64s.now)
borrowed_layout (kind.Decimal p s) c = numbers I64 (map (λ x. x) c.i64s.now)

-- the bits of the rows that are not null; none where no bytes are lent
abbrev pub bits_borrowed : List ℕ → Option (List ℕ)
bits_borrowed [] = None
bits_borrowed (b ∷ bs) = Some (b ∷ bs)

-- the column in Arrow's format says what the lent one does, whose kind is one
pub record Says (c : BorrowedColumn) (a : ArrowColumn) : Type 0 where
  pub kind : Kind
  pub numbered : kind_numbered c.kind ≡ Some kind
  pub nullable : a.nullable ≡ c.nullable
  pub rows : a.length ≡ c.rows
  pub offset : a.offset ≡ c.offset
  pub bits : option_map (λ b. b.now) a.validity ≡ bits_borrowed c.validity.now
  pub layout : layout_of a.values ≡ borrowed_layout kind c
  pub means : values_number a.values ≡ logical_number kind

-- so it does where the column is read; else there is none, whatever was lent
abbrev pub SaysIfRead : Bool → BorrowedColumn → Option ArrowColumn → Type 0
SaysIfRead false c o = o ≡ None
SaysIfRead true c None = ⊥
SaysIfRead true c (Some a) = Says c a

-- each column is as its mark says, and without a mark it is not read
abbrev pub AllSay : List Bool → List BorrowedColumn → List (Option ArrowColumn) → Type 0
AllSay bs [] [] = ⊤
AllSay bs [] (o ∷ rest) = ⊥
AllSay bs (c ∷ cs) [] = ⊥
AllSay [] (c ∷ cs) (o ∷ rest) = SaysIfRead false c o × AllSay [] cs rest
AllSay (b ∷ bs) (c ∷ cs) (o ∷ rest) = SaysIfRead b c o × AllSay bs cs rest

-- column k is marked as read
abbrev pub is_read : List Bool → ℕ → Bool
is_read bs k = slice_index_or bs k false

-- that column is the first that is read and whose kind is none
pub record IsFirstUnknown (bs : List Bool) (cs : List BorrowedColumn) (k : ℕ) : Type 0 where
  pub column : BorrowedColumn
  pub there : slice_get cs k ≡ Some column
  pub read : is_read bs k ≡ true
  pub unknown : kind_numbered column.kind ≡ None
  pub before : (i : ℕ) → i < k → (c : BorrowedColumn) → slice_get cs i ≡ Some c
      → is_read bs i ≡ true → kind_numbered c.kind ≢ None

-- the first column that is read and whose kind is none; or memory ran out
abbrev pub RefusesBorrowed : List Bool → List BorrowedColumn → BorrowedError → Type 0
RefusesBorrowed bs cs (error.UnknownKind k) = IsFirstUnknown bs cs k
RefusesBorrowed bs cs error.OutOfMemory = ⊤
