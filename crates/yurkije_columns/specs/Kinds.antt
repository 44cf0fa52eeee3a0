-- Kinds of values: their numbers, and the types that they stand for.
use Rattle.std.specs.Prelude.{ℕ, zero, suc, ◌+◌, ◌-◌, ◌*◌, ◌/◌, ◌%◌, nat_eq, nat_le, ◌&&◌, Bool}
use Rattle.std.specs.Prelude.{List, [], ◌∷◌, Option, Some, None, slice_get, unwrap_or}
use Rattle.std.specs.Prelude.{if◌then◌else◌}
use Rattle.vortex_types.specs.declared.dtype.PType.{PType}
use Rattle.vortex_types.specs.declared.dtype.PType.TheVariants.{I8, I16, I32, I64, U8, U16, U32}
use Rattle.vortex_types.specs.declared.dtype.PType.TheVariants.{U64}
use Rattle.vortex_types.specs.LogicalTypes.{LogicalType, bool_type, integer_type, text_type}
use Rattle.vortex_types.specs.LogicalTypes.{bytes_type}
use Rattle.vortex_logical.specs.Kinds.{decimal_kind}
use Rattle.vortex_logical.specs.declared.kind.Kind as logical
use Rattle.vortex_logical.specs.declared.kind.Kind.TheVariants as means
use Rattle.vortex_arrow.specs.declared.column.ArrowValues.{ArrowValues}
use Rattle.vortex_arrow.specs.declared.column.ArrowValues.TheVariants as arrow
use Rattle.yurkije_columns.specs.declared.kinds.Kind.{Kind}
use Rattle.yurkije_columns.specs.declared.kinds.Kind.TheVariants as kind

-- in the order of their numbers, which begin with 1
abbrev pub kinds : List Kind
kinds =
    kind.Bool ∷ kind.I8 ∷ kind.I16 ∷ kind.I32 ∷ kind.I64 ∷ kind.U8 ∷ kind.U16 ∷ kind.U32
    ∷ kind.U64 ∷ kind.Utf8 ∷ kind.LargeUtf8 ∷ kind.Utf8View ∷ kind.Binary ∷ kind.LargeBinary
    ∷ kind.BinaryView ∷ kind.F64 ∷ kind.F32 ∷ kind.Date ∷ kind.Timestamp ∷ []

-- decimals of p digits, of which s stand after the point
abbrev pub decimal_number : ℕ → ℕ → ℕ
decimal_number p s = 20 + 256 * p + 65536 * s

abbrev pub decimal_numbered : ℕ → Option Kind
decimal_numbered n =
    let p = n / 256 % 256 in
    let s = n / 65536 in
    if nat_eq (n % 256) 20 && nat_le 1 p && nat_le p 18 && nat_le s p
    then Some (kind.Decimal p s) else None

abbrev pub kind_numbered : ℕ → Option Kind
kind_numbered n =
    if nat_le 20 n then decimal_numbered n
    else (if nat_eq n 0 then None else slice_get kinds (n - 1))

-- the type of values of a kind, of which null is one or is not
abbrev pub kind_type : Kind → Bool → LogicalType
kind_type kind.Bool n = bool_type n
kind_type kind.I8 n = integer_type I8 n
kind_type kind.I16 n = integer_type I16 n
kind_type kind.I32 n = integer_type I32 n
kind_type kind.I64 n = integer_type I64 n
kind_type kind.U8 n = integer_type U8 n
kind_type kind.U16 n = integer_type U16 n
kind_type kind.U32 n = integer_type U32 n
kind_type kind.U64 n = integer_type U64 n
kind_type kind.Utf8 n = text_type n
kind_type kind.LargeUtf8 n = text_type n
kind_type kind.Utf8View n = text_type n
kind_type kind.Binary n = bytes_type n
kind_type kind.LargeBinary n = bytes_type n
kind_type kind.BinaryView n = bytes_type n
kind_type kind.F64 n = integer_type I64 n
kind_type kind.F32 n = integer_type I32 n
kind_type kind.Date n = integer_type I32 n
kind_type kind.Timestamp n = integer_type I64 n
kind_type (kind.Decimal p s) n = integer_type I64 n

-- the number of what values mean; 0 where that is what their type says
abbrev pub kind_number : logical.Kind → ℕ
kind_number means.Plain = 0
kind_number means.F64 = 16
kind_number means.F32 = 17
kind_number means.Date = 18
kind_number means.Timestamp = 19
kind_number (means.Decimal d) = decimal_number d.precision d.scale

-- the number at a place; those behind the list are plain
abbrev pub number_at : List logical.Kind → ℕ → ℕ
number_at [] n = 0
number_at (k ∷ ks) zero = kind_number k
number_at (k ∷ ks) (suc n) = number_at ks n

-- the same of a kind, and of a column that lies in a caller's buffers
abbrev pub logical_number : Kind → ℕ
logical_number kind.F64 = 16
logical_number kind.F32 = 17
logical_number kind.Date = 18
logical_number kind.Timestamp = 19
logical_number (kind.Decimal p s) = decimal_number p s
logical_number k = 0

abbrev pub values_number : ArrowValues → ℕ
values_number (arrow.Float64 xs) = 16
values_number (arrow.Float32 xs) = 17
values_number (arrow.Date xs) = 18
values_number (arrow.Timestamp xs) = 19
values_number (arrow.Decimal p s xs) = decimal_number p s
values_number xs = 0

-- what values of a kind mean
abbrev pub decimal_or_plain : ℕ → ℕ → logical.Kind
decimal_or_plain p s = unwrap_or (decimal_kind p s) means.Plain

abbrev pub logical_kind : Kind → logical.Kind
logical_kind kind.F64 = means.F64
logical_kind kind.F32 = means.F32
logical_kind kind.Date = means.Date
logical_kind kind.Timestamp = means.Timestamp
logical_kind (kind.Decimal p s) = decimal_or_plain p s
logical_kind k = means.Plain

abbrev pub integer_number : PType → ℕ
integer_number I8 = 2
integer_number I16 = 3
integer_number I32 = 4
integer_number I64 = 5
integer_number U8 = 6
integer_number U16 = 7
integer_number U32 = 8
integer_number U64 = 9

-- the number of the first kind of that type; 0 where it has none
abbrev pub type_number : LogicalType → ℕ
type_number (bool_type n) = 1
type_number (integer_type p n) = integer_number p
type_number (text_type n) = 10
type_number (bytes_type n) = 13
type_number t = 0

-- the number that is told of a type, whose values have the meaning of a number
abbrev pub reported_number : ℕ → LogicalType → ℕ
reported_number n t = if nat_eq n 0 then type_number t else n
