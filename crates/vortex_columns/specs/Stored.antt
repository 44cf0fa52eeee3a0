-- The view of a column's parts. The view of its storage is a function of `Stored`, which does
-- not contain where lists are stored, so a
-- copy of a storage has the view of its source.
use Rattle.std.specs.Prelude.{◌≡◌, ℕ, ◌+◌, ◌*◌, ◌<◌, ◌≤◌, ℤ, pos, Bool, true, false, List, [], ◌∷◌}
use Rattle.std.specs.Prelude.{map, length, String, slice_index, slice_index_or}
use Rattle.std.specs.Prelude.{if◌then◌else◌, All, IsUtf8, Option, Some, None}
use Rattle.std.specs.List.{range_with_len}
use Rattle.vortex_columns.specs.declared.column.Column.TheInside.{Inside}
use Rattle.vortex_columns.specs.declared.column.Storage.{Storage}
use Rattle.vortex_columns.specs.declared.column.Storage.TheVariants as storage
use Rattle.vortex_columns.specs.declared.column.Elements.{Elements}
use Rattle.vortex_columns.specs.declared.column.Elements.TheVariants as elements
use Rattle.vortex_types.specs.declared.dtype.PType.{PType}
use Rattle.vortex_types.specs.LogicalTypes.{LogicalType, null_type, bool_type, integer_type}
use Rattle.vortex_types.specs.LogicalTypes.{text_type, bytes_type, struct_type, list_type}
use Rattle.vortex_types.specs.LogicalTypes.{fixed_size_list_type, map_type, Fields, no_fields}
use Rattle.vortex_types.specs.LogicalTypes.{field}
use Rattle.vortex_types.specs.Values.{Value, null, truth, number, text, bytes}
use Rattle.vortex_types.specs.Typing.{FitsPType, HasType}
use Rattle.std.specs.declared.alloc.Global.{Global}
use Rattle.vortex_types.specs.TypeOf.{type_of, AllDiffer}
use Rattle.vortex_types.specs.Numbers.{numbers, ptype_of}
use Rattle.vortex_types.specs.ScalarView.{ScalarView}
use Rattle.vortex_columns.specs.ColumnView.{ColumnView, AreTyped, constant_form, part, record_at}
use Rattle.vortex_columns.specs.ColumnView.{entries, LieWithin}
use Rattle.vortex_columns.specs.ValidityView.{all_invalid, ValidityView, validity_of, is_valid_row}
use Rattle.vortex_columns.specs.ValidityView.{form_allows_null, FitsRows, Reaches}

-- values, one a row, of one kind
pub data Kept : Type 0 where
  bools : List Bool → Kept
  integers : PType → List ℤ → Kept
  texts : List (List ℕ) → Kept
  byte_strings : List (List ℕ) → Kept
  structs : List ColumnView → Kept
  lists : ColumnView → List ℕ → List ℕ → Kept
  fixed_size_lists : ColumnView → ℕ → Kept
  maps : ColumnView → ColumnView → List ℕ → List ℕ → Kept

pub data Stored : Type 0 where
  nulls : Stored
  constant_of : ScalarView → Stored
  kept : Kept → ValidityView → Stored

abbrev pub kept_of : Elements → Kept
kept_of (elements.Bool bits) = bools bits
kept_of (elements.Primitive ints) = integers (ptype_of ints) (numbers ints)
kept_of (elements.Utf8 values) = texts values
kept_of (elements.Binary values) = byte_strings values
kept_of (elements.Struct fields) = structs fields.items
kept_of (elements.List e offsets sizes) = lists e.value offsets.items sizes.items
kept_of (elements.FixedSizeList e size) = fixed_size_lists e.value size
kept_of (elements.Map keys values offsets sizes) =
    maps keys.value values.value offsets.items sizes.items

abbrev pub stored_of : Storage → Stored
stored_of storage.Null = nulls
stored_of (storage.Constant s) = constant_of s
stored_of (storage.Rows e v) = kept (kept_of e) (validity_of v)

-- the scalar that is in each row, if the rows are stored as one
abbrev pub constant_in : Stored → Option ScalarView
constant_in (constant_of s) = Some s
constant_in s = None

abbrev pub stored_validity : Stored → ValidityView
stored_validity nulls = record { form = all_invalid; bits = [] }
stored_validity (constant_of s) = record { form = constant_form s.dtype s.value; bits = [] }
stored_validity (kept k v) = v

-- the value of a row that is valid
abbrev pub kept_at : Kept → ℕ → Value
kept_at (bools bits) i = truth (slice_index_or bits i false)
kept_at (integers p ns) i = number (slice_index_or ns i (pos 0))
kept_at (texts ts) i = text (slice_index_or ts i [])
kept_at (byte_strings bs) i = bytes (slice_index_or bs i [])
kept_at (structs cs) i = record_at cs i
kept_at (lists e offsets sizes) i = part e.rows (slice_index offsets i) (slice_index sizes i)
kept_at (fixed_size_lists e size) i = part e.rows (size * i) size
kept_at (maps k v offsets sizes) i =
    part (entries k.rows v.rows) (slice_index offsets i) (slice_index sizes i)

abbrev pub value_at : Stored → ℕ → Value
value_at nulls i = null
value_at (constant_of s) i = s.value
value_at (kept k v) i = kept_at k i

abbrev pub row_at : Stored → ℕ → Value
row_at s i = if is_valid_row (stored_validity s) i then value_at s i else null

abbrev pub rows_of : ℕ → Stored → List Value
rows_of n s = map (row_at s) (range_with_len 0 n)

-- a column for each field, of its type and of that many rows
abbrev pub AreFields : ℕ → Fields → List ColumnView → Type 0
AreFields n no_fields [] = Unit {0}
AreFields n (field name t fs) (c ∷ cs) =
    (c.dtype ≡ t) × (length c.rows ≡ n) × AreTyped c.dtype c.rows × AreFields n fs cs
AreFields n fs cs = ⊥

-- that many values of the type, which has null or not
abbrev pub AreKept : ℕ → LogicalType → Bool → Kept → Type 0
AreKept n t m (bools bits) = (t ≡ bool_type m) × (length bits ≡ n)
AreKept n t m (integers p ns) = (t ≡ integer_type p m) × (length ns ≡ n) × All (FitsPType p) ns
AreKept n t m (texts ts) = (t ≡ text_type m) × (length ts ≡ n)
AreKept n t m (byte_strings bs) = (t ≡ bytes_type m) × (length bs ≡ n) × All (All (λ b. b < 256)) bs
AreKept n t m (structs cs) = (fs : Fields) × (t ≡ struct_type fs m) × AreFields n fs cs
AreKept n t m (lists e offsets sizes) =
    (t ≡ list_type e.dtype m) × (length offsets ≡ n) × (length sizes ≡ n)
    × LieWithin (length e.rows) offsets sizes × AreTyped e.dtype e.rows
AreKept n t m (fixed_size_lists e size) =
    (t ≡ fixed_size_list_type e.dtype size m) × (length e.rows ≡ size * n) × AreTyped e.dtype e.rows
AreKept n t m (maps k v offsets sizes) =
    (t ≡ map_type k.dtype v.dtype m) × (length offsets ≡ n) × (length sizes ≡ n)
    × (length k.rows ≡ length v.rows) × LieWithin (length k.rows) offsets sizes
    × AreTyped k.dtype k.rows × AreTyped v.dtype v.rows

-- the value at an index is a text, if texts are stored
abbrev pub IsTextAt : ℕ → Kept → Type 0
IsTextAt i (texts ts) = IsUtf8 (slice_index_or ts i [])
IsTextAt i k = Unit {0}

-- in a row that is not null; under a null any bytes are allowed
abbrev pub IsTextIfValid : ℕ → Kept → ValidityView → Type 0
IsTextIfValid i k v = is_valid_row v i ≡ true → IsTextAt i k

abbrev pub IsStored : ℕ → LogicalType → Stored → Type 0
IsStored n t nulls = t ≡ null_type
IsStored n t (constant_of s) = (t ≡ s.dtype) × HasType s.dtype s.value
IsStored n t (kept k v) =
    AreKept n t (form_allows_null v.form) k × FitsRows v n
    × ((i : ℕ) → i < n → IsTextIfValid i k v)

abbrev pub column_view : Inside → ColumnView
column_view a =
    record {
      dtype = type_of a.dtype;
      rows = rows_of a.len (stored_of a.storage);
      constant = constant_in (stored_of a.storage);
      form = (stored_validity (stored_of a.storage)).form;
    }

abbrev pub IsColumn : Inside → Type 0
IsColumn a = IsStored a.len (type_of a.dtype) (stored_of a.storage)

-- what row i reads is in range
abbrev pub HasPlace : ℕ → Kept → Type 0
HasPlace i (bools bits) = i < length bits
HasPlace i (integers p ns) = i < length ns
HasPlace i (texts ts) = i < length ts
HasPlace i (byte_strings bs) = i < length bs
HasPlace i (structs cs) = All (λ c. i < length c.rows) cs
HasPlace i (lists e offsets sizes) =
    (i < length offsets) × (i < length sizes)
    × (slice_index offsets i + slice_index sizes i ≤ length e.rows)
HasPlace i (fixed_size_lists e size) = size * i + size ≤ length e.rows
HasPlace i (maps k v offsets sizes) =
    (i < length offsets) × (i < length sizes)
    × (slice_index offsets i + slice_index sizes i ≤ length k.rows)
    × (length k.rows ≡ length v.rows)

abbrev pub HasRow : ℕ → Stored → Type 0
HasRow i (kept k v) = HasPlace i k × Reaches v i × IsTextIfValid i k v
HasRow i s = Unit {0}

-- the result of a constructor: a value in each valid row, and null in the others
abbrev pub made_of : LogicalType → ValidityView → ℕ → (ℕ → Value) → ColumnView
made_of t v n f =
    record {
      dtype = t;
      rows = map (λ i. if is_valid_row v i then f i else null) (range_with_len 0 n);
      constant = None;
      form = v.form;
    }

abbrev pub bool_column : List Bool → ValidityView → ColumnView
bool_column bits v =
    made_of (bool_type (form_allows_null v.form)) v (length bits)
    (λ i. truth (slice_index_or bits i false))

-- columns that make a struct column of that many rows under these names
abbrev pub MakeStructs : List (String Global) → List ColumnView → ℕ → ValidityView → Type 0
MakeStructs names cs n v =
    (length names ≡ length cs) × AllDiffer names × All (λ c. length c.rows ≡ n) cs × FitsRows v n

-- offsets and sizes that make lists of that many elements
abbrev pub MakeLists : ℕ → List ℕ → List ℕ → ValidityView → Type 0
MakeLists count offsets sizes v =
    (length sizes ≡ length offsets) × LieWithin count offsets sizes × FitsRows v (length offsets)
