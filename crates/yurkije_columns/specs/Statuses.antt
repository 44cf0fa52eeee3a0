-- The numbers of what is refused of columns, fields and outputs.
use Rattle.std.specs.Prelude.{ℕ}
use Rattle.vortex_arrow.specs.declared.error.ArrowError.{ArrowError}
use Rattle.vortex_arrow.specs.declared.error.ArrowError.TheVariants as arrow
use Rattle.vortex_arrow.specs.declared.error.CopyError.{CopyError}
use Rattle.vortex_arrow.specs.declared.error.CopyError.TheVariants as copy
use Rattle.vortex_arrow.specs.declared.error.ValueFault.{ValueFault}
use Rattle.vortex_arrow.specs.declared.error.ValueFault.TheVariants as value
use Rattle.yurkije_columns.specs.declared.batch.ColumnFault.{ColumnFault}
use Rattle.yurkije_columns.specs.declared.batch.ColumnFault.TheVariants as column
use Rattle.yurkije_columns.specs.declared.fields.ScopeFault.{ScopeFault}
use Rattle.yurkije_columns.specs.declared.fields.ScopeFault.TheVariants as scope

abbrev pub scope_status : ScopeFault → ℕ
scope_status scope.OutOfMemory = 9
scope_status scope.UnknownKind = 102
scope_status scope.NotUtf8 = 110
scope_status scope.NameTwice = 111

abbrev pub value_status : ValueFault → ℕ
value_status value.OffsetsFall = 125
value_status value.PastData = 126
value_status value.ViewOutOfRange = 127
value_status value.PrefixDiffers = 128
value_status value.NotPadded = 129

abbrev pub arrow_status : ArrowError → ℕ
arrow_status arrow.OutOfMemory = 9
arrow_status arrow.ValidityTooShort = 120
arrow_status arrow.ValuesTooShort = 121
arrow_status arrow.OffsetsTooShort = 122
arrow_status (arrow.UnexpectedNull r) = 124
arrow_status (arrow.InvalidValue r f) = value_status f
arrow_status (arrow.NotUtf8 r) = 130
arrow_status arrow.TooLong = 131

abbrev pub copy_status : CopyError → ℕ
copy_status copy.OtherType = 103
copy_status copy.ValidityTooShort = 120
copy_status copy.ValuesTooShort = 121
copy_status copy.OffsetsTooShort = 122
copy_status copy.DataTooShort = 123
copy_status copy.TooLong = 131

abbrev pub column_status : ColumnFault → ℕ
column_status (column.OtherLength n) = 2
column_status column.Missing = 11
column_status column.Unasked = 11
column_status column.OtherType = 11
column_status (column.Unread e) = arrow_status e
