-- The type that the fields of a column have, with the kind of its values.
use Rattle.std.specs.Prelude.{ℕ, List, [], ◌∷◌, Bool, true, false, ◌&&◌, ◌||◌, ◌+◌, ◌*◌, ◌==◌}
use Rattle.std.specs.Prelude.{Option, Some, None, is_some, if◌then◌else◌, slice_index_or, map, not}
use Rattle.std.specs.Prelude.{codes, ℤ, nat_lt, unsigned_abs}
use Rattle.std.specs.List.{list_all, list_any, range_with_len}
use Rattle.std.specs.Char.{is_ascii_digit}
use Rattle.std.specs.Str.{bytes_eq, is_utf8}
use Rattle.vortex_types.specs.declared.dtype.PType.TheVariants.{I32, I64}
use Rattle.vortex_types.specs.LogicalTypes.{LogicalType, bool_type, integer_type, text_type}
use Rattle.vortex_cells.specs.CellValues.{cell_fits}
use Rattle.vortex_logical.specs.declared.kind.Kind.{Kind}
use Rattle.vortex_logical.specs.declared.kind.Kind.TheVariants.{F64, Date, Timestamp}
use Rattle.vortex_logical.specs.Cells.{stored_of_text}
use Rattle.rowfn_queries.specs.ColumnTypes.{KindedType, kinded, plain}

-- the bytes of a field, and none of a null field
abbrev pub Field : Type 0
Field = Option (List ℕ)

-- the field is null or says a value of the type
abbrev pub holds : LogicalType → Field → Bool
holds t None = true
holds t (Some bytes) = is_utf8 bytes && cell_fits t (Some bytes)

abbrev pub hold : LogicalType → List Field → Bool
hold t fs = list_all (holds t) fs

-- a text begins with a digit that is not 0
abbrev pub begins_number : List ℕ → Bool
begins_number [] = false
begins_number (b ∷ bs) = is_ascii_digit b && not (b == 48)

-- digits, with a minus sign before them or without, are the decimal text of their number: no 0
-- leads, and 0 itself has no sign
abbrev pub is_decimal : List ℕ → Bool
is_decimal [] = false
is_decimal (b ∷ bs) =
    if b == 45 then begins_number bs else bytes_eq (b ∷ bs) (codes "0") || begins_number (b ∷ bs)

-- the field is null, or the decimal text of a number that i64 holds
abbrev pub is_number : Field → Bool
is_number None = true
is_number (Some bytes) = is_decimal bytes && holds (integer_type I64 false) (Some bytes)

abbrev pub are_numbers : List Field → Bool
are_numbers fs = list_all is_number fs

-- whether some field is not null, and whether some is
abbrev pub has_value : List Field → Bool
has_value fs = list_any is_some fs

abbrev pub has_null : List Field → Bool
has_null fs = list_any (λ f. not (is_some f)) fs

-- a point, and the letters of an exponent
abbrev pub is_fractional : ℕ → Bool
is_fractional b = (b == 46) || (b == 69) || (b == 101)

abbrev pub begins_digit : List ℕ → Bool
begins_digit [] = false
begins_digit (b ∷ bs) = is_ascii_digit b

-- a text begins with a point, or with a digit, and no digit follows a first 0
abbrev pub begins_decimal : List ℕ → Bool
begins_decimal [] = false
begins_decimal (b ∷ bs) =
    if b == 48 then not (begins_digit bs) else (b == 46) || is_ascii_digit b

-- the same after a minus sign, or without
abbrev pub begins_signed : List ℕ → Bool
begins_signed [] = false
begins_signed (b ∷ bs) = if b == 45 then begins_decimal bs else begins_decimal (b ∷ bs)

-- the integer stands for a float that is neither infinite nor a NaN
abbrev pub is_finite : Option ℤ → Bool
is_finite None = false
is_finite (Some z) = nat_lt (unsigned_abs z) 9218868437227405312

-- the field is null, or a float that is finite, with a point or an exponent
abbrev pub is_float : Field → Bool
is_float None = true
is_float (Some bs) =
    begins_signed bs && list_any is_fractional bs && is_finite (stored_of_text F64 bs)

-- or the decimal text of a number that i64 holds
abbrev pub is_numeric : Field → Bool
is_numeric f = is_number f || is_float f

abbrev pub are_numeric : List Field → Bool
are_numeric fs = list_all is_numeric fs

-- the field is null or a text of the kind
abbrev pub is_of_kind : Kind → Field → Bool
is_of_kind k None = true
is_of_kind k (Some bs) = is_some (stored_of_text k bs)

abbrev pub are_of_kind : Kind → List Field → Bool
are_of_kind k fs = list_all (is_of_kind k) fs

-- the first of these types that the fields have, else utf8; with null or without
abbrev pub first_type : (bools numbers reals dates timestamps n : Bool) → KindedType
first_type bools numbers reals dates timestamps n =
    if bools then plain (bool_type n)
    else (if numbers then plain (integer_type I64 n)
    else (if reals then kinded F64 (integer_type I64 n)
    else (if dates then kinded Date (integer_type I32 n)
    else (if timestamps then kinded Timestamp (integer_type I64 n)
    else plain (text_type n)))))

-- by the fields that are not null: bool where each says a truth value, i64 where each is the decimal
-- text of its number, f64 where each is a number, date and timestamp where each is one, else utf8,
-- and utf8 where there is none; with null where a field is null
abbrev pub inferred : List Field → KindedType
inferred fs =
    let n = has_null fs in
    if has_value fs
    then first_type (hold (bool_type false) fs) (are_numbers fs) (are_numeric fs)
    (are_of_kind Date fs) (are_of_kind Timestamp fs) n
    else plain (text_type n)

-- the fields of column j, of the first n of rows of w fields
abbrev pub column_fields : List Field → ℕ → ℕ → ℕ → List Field
column_fields fs w n j = map (λ i. slice_index_or fs (i * w + j) None) (range_with_len 0 n)

-- the types of columns by their fields, of n rows of w
abbrev pub inferred_types : List Field → ℕ → ℕ → List KindedType
inferred_types fs w n = map (λ j. inferred (column_fields fs w n j)) (range_with_len 0 w)
