-- The kinds that texts are cast to, and those that are cast to texts: their integer types, and their
-- faults.
use Rattle.vortex_types.specs.declared.dtype.PType.{PType}
use Rattle.vortex_types.specs.declared.dtype.PType.TheVariants.{I32, I64}
use Rattle.vortex_logical.specs.declared.kind.Kind.{Kind}
use Rattle.vortex_logical.specs.declared.kind.Kind.TheVariants as kind
use Rattle.vortex_sql_rows.specs.declared.faults.RowFault.{RowFault}
use Rattle.vortex_sql_rows.specs.declared.faults.RowFault.TheVariants as fault
use Rattle.vortex_sql_kind_texts.specs.declared.kinds.StoredKind.{StoredKind}
use Rattle.vortex_sql_kind_texts.specs.declared.kinds.StoredKind.TheVariants.{Date, Timestamp, F64}
use Rattle.vortex_sql_kind_texts.specs.declared.kinds.StoredKind.TheVariants.{F32}
use Rattle.vortex_sql_kind_texts.specs.declared.kinds.WrittenKind.{WrittenKind}
use Rattle.vortex_sql_kind_texts.specs.declared.kinds.WrittenKind.TheVariants as written

abbrev pub kind_of : StoredKind → Kind
kind_of Date = kind.Date
kind_of Timestamp = kind.Timestamp
kind_of F64 = kind.F64
kind_of F32 = kind.F32

abbrev pub ptype_of : StoredKind → PType
ptype_of Date = I32
ptype_of Timestamp = I64
ptype_of F64 = I64
ptype_of F32 = I32

abbrev pub fault_of : StoredKind → RowFault
fault_of Date = fault.NoDate
fault_of Timestamp = fault.NoTimestamp
fault_of F64 = fault.NoFloat
fault_of F32 = fault.NoFloat

abbrev pub written_kind_of : WrittenKind → Kind
written_kind_of written.Date = kind.Date
written_kind_of written.Timestamp = kind.Timestamp

abbrev pub written_ptype_of : WrittenKind → PType
written_ptype_of written.Date = I32
written_ptype_of written.Timestamp = I64

-- of a stored integer that has no text
abbrev pub range_fault_of : WrittenKind → RowFault
range_fault_of written.Date = fault.DateRange
range_fault_of written.Timestamp = fault.TimestampRange
