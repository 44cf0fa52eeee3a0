-- The arguments of constructors of columns, and the columns that they make.
use Rattle.std.specs.Borrow.{Bor}
use Rattle.std.specs.Prelude.{◌≡◌, ℕ, ◌*◌, ℤ, pos, List, [], map, length}
use Rattle.std.specs.Prelude.{◌<◌, true, IsUtf8, String, string_bytes, Vec, slice_index}
use Rattle.std.specs.Prelude.{slice_index_or}
use Rattle.std.specs.declared.alloc.Global.{Global}
use Rattle.vortex_types.specs.declared.dtype.PType.{PType}
use Rattle.vortex_types.specs.LogicalTypes.{integer_type, text_type, bytes_type, struct_type}
use Rattle.vortex_types.specs.LogicalTypes.{list_type, fixed_size_list_type, map_type}
use Rattle.vortex_types.specs.Values.{number, text, bytes}
use Rattle.vortex_columns.specs.ValidityView.{ValidityView, form_allows_null, FitsRows}
use Rattle.vortex_columns.specs.ValidityView.{is_valid_row}
use Rattle.vortex_views.specs.declared.view.BinaryView.{BinaryView}
use Rattle.vortex_views.specs.Resolved.{AreViewsIn, values_in}
use Rattle.vortex_views.specs.Collected.{HaveRoom}
use Rattle.vortex_columns.specs.ColumnView.{ColumnView, part, record_at, entries, named_columns}
use Rattle.vortex_columns.specs.Stored.{made_of, MakeLists}

-- integers of one type, by the number of each
abbrev pub int_column : {A : Type 0} → PType → (A → ℤ) → List A → ValidityView → ColumnView
int_column p f xs v =
    made_of (integer_type p (form_allows_null v.form)) v (length xs)
    (λ i. number (slice_index_or (map f xs) i (pos 0)))

-- texts, by the bytes of each
abbrev pub text_rows : List (List ℕ) → ValidityView → ColumnView
text_rows ts v =
    made_of (text_type (form_allows_null v.form)) v (length ts) (λ i. text (slice_index_or ts i []))

-- values that are texts in the rows that are not null
abbrev pub MakeTextRows : List (List ℕ) → ValidityView → Type 0
MakeTextRows ts v =
    FitsRows v (length ts)
    × ((i : ℕ) → i < length ts → is_valid_row v i ≡ true → IsUtf8 (slice_index_or ts i []))

abbrev pub byte_string_rows : List (List ℕ) → ValidityView → ColumnView
byte_string_rows bs v =
    made_of (bytes_type (form_allows_null v.form)) v (length bs)
    (λ i. bytes (slice_index_or bs i []))

abbrev pub texts_of : List (String Global) → List (List ℕ)
texts_of ts = map string_bytes ts

abbrev pub MakeTexts : List (String Global) → ValidityView → Type 0
MakeTexts ts v = FitsRows v (length ts) × HaveRoom (texts_of ts)

-- texts that are in other buffers
abbrev pub borrowed_texts : List (Bor (List ℕ)) → List (List ℕ)
borrowed_texts ts = map (λ t. t.now) ts

abbrev pub MakeBorrowedTexts : List (Bor (List ℕ)) → ValidityView → Type 0
MakeBorrowedTexts ts v = FitsRows v (length ts) × HaveRoom (borrowed_texts ts)

abbrev pub text_column : List (String Global) → ValidityView → ColumnView
text_column ts v = text_rows (texts_of ts) v

abbrev pub byte_strings_of : List (Vec ℕ Global) → List (List ℕ)
byte_strings_of bs = map (λ b. b.items) bs

abbrev pub MakeByteStrings : List (Vec ℕ Global) → ValidityView → Type 0
MakeByteStrings bs v = FitsRows v (length bs) × HaveRoom (byte_strings_of bs)

abbrev pub byte_string_column : List (Vec ℕ Global) → ValidityView → ColumnView
byte_string_column bs v = byte_string_rows (byte_strings_of bs) v

-- views that are valid for buffers, of texts in the rows that are not null
abbrev pub MakeTextViews : List BinaryView → List (Vec ℕ Global) → ValidityView → Type 0
MakeTextViews views buffers v =
    AreViewsIn (byte_strings_of buffers) views
    × MakeTextRows (values_in (byte_strings_of buffers) views) v

abbrev pub MakeByteStringViews : List BinaryView → List (Vec ℕ Global) → ValidityView → Type 0
MakeByteStringViews views buffers v =
    AreViewsIn (byte_strings_of buffers) views × FitsRows v (length views)

-- records, of the columns under these names
abbrev pub struct_column : List (String Global) → List ColumnView → ℕ → ValidityView → ColumnView
struct_column names fields n v =
    made_of (struct_type (named_columns names fields) (form_allows_null v.form)) v n
    (record_at fields)

-- lists, each a range of the elements
abbrev pub list_column : ColumnView → List ℕ → List ℕ → ValidityView → ColumnView
list_column e offsets sizes v =
    made_of (list_type e.dtype (form_allows_null v.form)) v (length offsets)
    (λ i. part e.rows (slice_index offsets i) (slice_index sizes i))

abbrev pub MakeFixedSizeLists : ColumnView → ℕ → ℕ → ValidityView → Type 0
MakeFixedSizeLists e size n v = (length e.rows ≡ size * n) × FitsRows v n

-- lists of one size, one after another
abbrev pub fixed_size_list_column : ColumnView → ℕ → ℕ → ValidityView → ColumnView
fixed_size_list_column e size n v =
    made_of (fixed_size_list_type e.dtype size (form_allows_null v.form)) v n
    (λ i. part e.rows (size * i) size)

abbrev pub MakeMaps : ColumnView → ColumnView → List ℕ → List ℕ → ValidityView → Type 0
MakeMaps keys values offsets sizes v =
    (length keys.rows ≡ length values.rows) × MakeLists (length keys.rows) offsets sizes v

-- maps, each a range of the keys and values
abbrev pub map_column : ColumnView → ColumnView → List ℕ → List ℕ → ValidityView → ColumnView
map_column keys values offsets sizes v =
    made_of (map_type keys.dtype values.dtype (form_allows_null v.form)) v (length offsets)
    (λ i. part (entries keys.rows values.rows) (slice_index offsets i) (slice_index sizes i))
