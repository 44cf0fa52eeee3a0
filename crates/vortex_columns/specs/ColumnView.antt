-- The view of a column: its type, its rows, the scalar if it is a constant, and the form of its
-- validity. What is under a null is not part of the view.
use Rattle.std.specs.Prelude.{◌≡◌, ℕ, zero, suc, ◌+◌, ◌*◌, ◌<◌, ◌≤◌, ℤ, pos, Bool, true, false}
use Rattle.std.specs.Prelude.{not, if◌then◌else◌, Option, Some, None, IfSome, refl, String}
use Rattle.std.specs.Prelude.{string_bytes}
use Rattle.std.specs.Prelude.{List, [], ◌∷◌, map, length, take, drop, All}
use Rattle.std.specs.Prelude.{slice_index, slice_index_or}
use Rattle.std.specs.List.{range_with_len}
use Rattle.std.specs.declared.alloc.Global.{Global}
use Rattle.vortex_types.specs.declared.dtype.PType.{PType}
use Rattle.vortex_types.specs.ScalarView.{ScalarView, coded_scalar}
use Rattle.std.specs.Coded.{Coded, code_by, coded×, coded_ℕ, coded_option, coded_list}
use Rattle.vortex_types.specs.LogicalTypes.{LogicalType, null_type, integer_type, text_type}
use Rattle.vortex_types.specs.LogicalTypes.{bytes_type, struct_type, list_type, map_type}
use Rattle.vortex_types.specs.LogicalTypes.{fixed_size_list_type, Fields, no_fields, field}
use Rattle.vortex_types.specs.LogicalTypes.{field_count, field_type, is_bool_type, is_nullable}
use Rattle.vortex_types.specs.Values.{Value, null, truth, number, text, bytes, list, no_values}
use Rattle.vortex_types.specs.Values.{value, values_of, nth_value, is_null}
use Rattle.vortex_types.specs.Typing.{HasType}
use Rattle.vortex_types.specs.Codes.{coded_value, coded_type}
use Rattle.vortex_columns.specs.ValidityView.{ValidityForm, non_nullable, all_valid, all_invalid}
use Rattle.vortex_columns.specs.ValidityView.{array, ValidityView, is_valid_row}

pub record ColumnView : Type 0 where
  pub dtype : LogicalType
  pub rows : List Value
  pub constant : Option ScalarView
  pub form : ValidityForm

abbrev pub row : List Value → ℕ → Value
row rows i = slice_index_or rows i null

-- each row has the type
abbrev pub AreTyped : LogicalType → List Value → Type 0
AreTyped t = All (HasType t)

-- which rows are not null
abbrev pub valid_rows : List Value → List Bool
valid_rows = map (λ v. not (is_null v))

-- the validity marks exactly the null rows
abbrev pub TellsNulls : List Value → ValidityView → Type 0
TellsNulls rows v = (i : ℕ) → i < length rows → is_valid_row v i ≡ not (is_null (row rows i))

-- the form of a column's validity is right about whether this value is null
abbrev pub FormTells : ValidityForm → Value → Type 0
FormTells non_nullable v = is_null v ≡ false
FormTells all_valid v = is_null v ≡ false
FormTells all_invalid v = is_null v ≡ true
FormTells array v = Unit {0}

-- the form is right for each row, and the scalar of a constant column has its type
abbrev pub TypeInvariant : ColumnView → Type 0
TypeInvariant c =
    ((i : ℕ) → i < length c.rows → FormTells c.form (row c.rows i))
    × IfSome c.constant (λ s. HasType s.dtype s.value)

-- one row with its type
abbrev pub scalar_in : ColumnView → ℕ → ScalarView
scalar_in c i = record { dtype = c.dtype; value = row c.rows i }

-- the same value in each row: null, or valid, in a type that has null or not
abbrev pub constant_form : LogicalType → Value → ValidityForm
constant_form t null = all_invalid
constant_form t v = if is_nullable t then all_valid else non_nullable

-- one value in each of n rows
abbrev pub constant_column : ScalarView → ℕ → ColumnView
constant_column s n =
    record {
      dtype = s.dtype;
      rows = map (λ i. s.value) (range_with_len 0 n);
      constant = Some s;
      form = constant_form s.dtype s.value;
    }

-- null in each of n rows of type Null
abbrev pub null_column : ℕ → ColumnView
null_column n =
    record {
      dtype = null_type;
      rows = map (λ i. null) (range_with_len 0 n);
      constant = None;
      form = all_invalid;
    }

-- a row that is not null is this value
abbrev pub IsUnlessNull : Value → Value → Type 0
IsUnlessNull v w = is_null v ≡ false → v ≡ w

-- a column of truth values, not constant
pub record HasBits (c : ColumnView) : Type 0 where
  pub bool : is_bool_type c.dtype ≡ true
  pub computed : c.constant ≡ None

-- a bit for each row, which is the row's truth value where it is not null
pub record AreBits (c : ColumnView) (bits : List Bool) : Type 0 where
  pub count : length bits ≡ length c.rows
  pub each : (i : ℕ) → i < length bits
      → IsUnlessNull (row c.rows i) (truth (slice_index_or bits i false))

-- a column of integers of one type, not constant
abbrev pub IsIntegerType : PType → LogicalType → Type 0
IsIntegerType p (integer_type q n) = q ≡ p
IsIntegerType p t = ⊥

pub record HasInts (p : PType) (c : ColumnView) : Type 0 where
  pub integers : IsIntegerType p c.dtype
  pub computed : c.constant ≡ None

-- a number for each row, which is the row's number where it is not null
pub record AreInts (c : ColumnView) (ns : List ℤ) : Type 0 where
  pub count : length ns ≡ length c.rows
  pub each : (i : ℕ) → i < length ns
      → IsUnlessNull (row c.rows i) (number (slice_index_or ns i (pos 0)))

-- texts or bytes, not constant
abbrev pub is_bytes_like : LogicalType → Bool
is_bytes_like (text_type n) = true
is_bytes_like (bytes_type n) = true
is_bytes_like t = false

abbrev pub bytes_value : LogicalType → List ℕ → Value
bytes_value (text_type n) bs = text bs
bytes_value t bs = bytes bs

pub record HasBytes (c : ColumnView) : Type 0 where
  pub bytes_like : is_bytes_like c.dtype ≡ true
  pub computed : c.constant ≡ None

-- bytes for each row, which are the row's text or byte string where it is not null
pub record AreBytes (c : ColumnView) (bs : List (List ℕ)) : Type 0 where
  pub count : length bs ≡ length c.rows
  pub each : (i : ℕ) → i < length bs
      → IsUnlessNull (row c.rows i) (bytes_value c.dtype (slice_index_or bs i []))

-- the bytes of one row
abbrev pub AreBytesAt : ℕ → ColumnView → List ℕ → Type 0
AreBytesAt i c bs = IsUnlessNull (row c.rows i) (bytes_value c.dtype bs)

-- one list of a list column
abbrev pub part : List Value → ℕ → ℕ → Value
part rows offset size = list (values_of (take size (drop offset rows)))

-- one record of a struct column
abbrev pub record_at : List ColumnView → ℕ → Value
record_at fields i = list (values_of (map (λ c. row c.rows i) fields))

-- a key with its value, and all of them in order
abbrev pub entry : Value → Value → Value
entry k v = list (value k (value v no_values))

abbrev pub entries : List Value → List Value → List Value
entries (k ∷ ks) (v ∷ vs) = entry k v ∷ entries ks vs
entries ks vs = []

-- each list is within that many elements
abbrev pub LieWithin : ℕ → List ℕ → List ℕ → Type 0
LieWithin count offsets sizes = (i : ℕ) → i < length offsets
    → slice_index offsets i + slice_index sizes i ≤ count

-- names and types of columns under these names
abbrev pub named_columns : List (String Global) → List ColumnView → Fields
named_columns (n ∷ ns) (c ∷ cs) = field (string_bytes n) c.dtype (named_columns ns cs)
named_columns ns cs = no_fields

abbrev pub fields_in : LogicalType → Fields
fields_in (struct_type fs n) = fs
fields_in t = no_fields

abbrev pub value_in : ℕ → Value → Value
value_in k (list vs) = nth_value k vs
value_in k v = null

-- a struct column, not constant, that has this field
pub record HasField (k : ℕ) (c : ColumnView) : Type 0 where
  pub present : k < field_count (fields_in c.dtype)
  pub computed : c.constant ≡ None

-- the column of that field: in each row that is not null, the field's value
pub record IsField (k : ℕ) (c : ColumnView) (d : ColumnView) : Type 0 where
  pub dtype : d.dtype ≡ field_type k (fields_in c.dtype)
  pub count : length d.rows ≡ length c.rows
  pub each : (i : ℕ) → i < length c.rows → is_null (row c.rows i) ≡ false
      → row d.rows i ≡ value_in k (row c.rows i)

abbrev pub is_list_type : LogicalType → Bool
is_list_type (list_type t n) = true
is_list_type t = false

abbrev pub is_fixed_size_list_type : LogicalType → Bool
is_fixed_size_list_type (fixed_size_list_type t s n) = true
is_fixed_size_list_type t = false

abbrev pub is_map_type : LogicalType → Bool
is_map_type (map_type k v n) = true
is_map_type t = false

-- a column of that kind, not constant
pub record HasKind (test : LogicalType → Bool) (c : ColumnView) : Type 0 where
  pub kind : test c.dtype ≡ true
  pub computed : c.constant ≡ None

-- each row that is not null is the list at its range of the elements
pub record AreLists (c : ColumnView) (e : ColumnView) (offsets sizes : List ℕ) : Type 0 where
  pub dtype : c.dtype ≡ list_type e.dtype (is_nullable c.dtype)
  pub offset_count : length offsets ≡ length c.rows
  pub size_count : length sizes ≡ length c.rows
  pub within : LieWithin (length e.rows) offsets sizes
  pub each : (i : ℕ) → i < length c.rows
      → IsUnlessNull (row c.rows i) (part e.rows (slice_index offsets i) (slice_index sizes i))

pub record AreFixedSizeLists (c : ColumnView) (e : ColumnView) (size : ℕ) : Type 0 where
  pub dtype : c.dtype ≡ fixed_size_list_type e.dtype size (is_nullable c.dtype)
  pub count : length e.rows ≡ size * length c.rows
  pub each : (i : ℕ) → i < length c.rows → IsUnlessNull (row c.rows i) (part e.rows (size * i) size)

pub record AreMaps (c : ColumnView) (keys values : ColumnView) (offsets sizes : List ℕ) : Type 0
  where
    pub dtype : c.dtype ≡ map_type keys.dtype values.dtype (is_nullable c.dtype)
    pub offset_count : length offsets ≡ length c.rows
    pub size_count : length sizes ≡ length c.rows
    pub value_count : length keys.rows ≡ length values.rows
    pub within : LieWithin (length keys.rows) offsets sizes
    pub each : (i : ℕ) → i < length c.rows
        → IsUnlessNull (row c.rows i)
        (part (entries keys.rows values.rows) (slice_index offsets i) (slice_index sizes i))

abbrev pub form_number : ValidityForm → ℕ
form_number non_nullable = 0
form_number all_valid = 1
form_number all_invalid = 2
form_number array = 3

abbrev pub form_numbered : ℕ → ValidityForm
form_numbered zero = non_nullable
form_numbered (suc zero) = all_valid
form_numbered (suc (suc zero)) = all_invalid
form_numbered n = array

pub form_back : (f : ValidityForm) → form_numbered (form_number f) ≡ f
form_back non_nullable = refl
form_back all_valid = refl
form_back all_invalid = refl
form_back array = refl

abbrev pub coded_form : Coded ValidityForm
coded_form = code_by ℕ coded_ℕ form_number form_numbered form_back

abbrev pub coded_column : Coded ColumnView
coded_column =
    code_by (LogicalType × (List Value × (Option ScalarView × ValidityForm))) coded_parts
    (λ c. (c.dtype, (c.rows, (c.constant, c.form))))
    (λ p. record { dtype = p.0; rows = p.1.0; constant = p.1.1.0; form = p.1.1.1 })
    (λ _. refl)
  where
    coded_parts : Coded (LogicalType × (List Value × (Option ScalarView × ValidityForm)))
    coded_parts =
        coded× coded_type
        (coded× (coded_list coded_value) (coded× (coded_option coded_scalar) coded_form))
