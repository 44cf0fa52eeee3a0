-- Why a row faults, by number and in words.
use Rattle.std.specs.Prelude.{ℕ, List, Option, Some, None, codes, nat_eq, if◌then◌else◌}
use Rattle.vortex_types.specs.declared.dtype.PType.TheVariants.{I8, I16, I32, I64, U8, U16, U32}
use Rattle.vortex_types.specs.declared.dtype.PType.TheVariants.{U64}
use Rattle.vortex_interface.specs.Outcomes.{Outcome, faults, custom}
use Rattle.vortex_sql_rows.specs.declared.faults.RowFault.{RowFault}
use Rattle.vortex_sql_rows.specs.declared.faults.RowFault.TheVariants as fault

abbrev pub fault_number : RowFault → ℕ
fault_number fault.ZeroDivisor = 1
fault_number fault.AbsOverflow = 2
fault_number fault.NegativeLength = 3
fault_number fault.TextTooLong = 4
fault_number fault.IntegerOutOfRange = 5
fault_number fault.ShiftCount = 6
fault_number fault.NoTruth = 7
fault_number fault.OtherValues = 8
fault_number fault.FieldZero = 9
fault_number fault.NoPattern = 10
fault_number (fault.OutOfRange I8) = 11
fault_number (fault.OutOfRange I16) = 12
fault_number (fault.OutOfRange I32) = 13
fault_number (fault.OutOfRange I64) = 14
fault_number (fault.OutOfRange U8) = 15
fault_number (fault.OutOfRange U16) = 16
fault_number (fault.OutOfRange U32) = 17
fault_number (fault.OutOfRange U64) = 18
fault_number fault.FloatOverflow = 19
fault_number fault.FloatUnderflow = 20
fault_number (fault.NoInteger I8) = 21
fault_number (fault.NoInteger I16) = 22
fault_number (fault.NoInteger I32) = 23
fault_number (fault.NoInteger I64) = 24
fault_number (fault.NoInteger U8) = 25
fault_number (fault.NoInteger U16) = 26
fault_number (fault.NoInteger U32) = 27
fault_number (fault.NoInteger U64) = 28
fault_number fault.NoDate = 31
fault_number fault.NoTimestamp = 32
fault_number fault.NoFloat = 33
fault_number fault.NoDecimal = 34
fault_number fault.DecimalDigits = 35
fault_number fault.DateRange = 36
fault_number fault.TimestampRange = 37

-- the fault with a number
abbrev pub fault_of : ℕ → Option RowFault
fault_of n =
    if nat_eq n 1 then Some fault.ZeroDivisor
    else if nat_eq n 2 then Some fault.AbsOverflow
    else if nat_eq n 3 then Some fault.NegativeLength
    else if nat_eq n 4 then Some fault.TextTooLong
    else if nat_eq n 5 then Some fault.IntegerOutOfRange
    else if nat_eq n 6 then Some fault.ShiftCount
    else if nat_eq n 7 then Some fault.NoTruth
    else if nat_eq n 8 then Some fault.OtherValues
    else if nat_eq n 9 then Some fault.FieldZero
    else if nat_eq n 10 then Some fault.NoPattern
    else if nat_eq n 11 then Some (fault.OutOfRange I8)
    else if nat_eq n 12 then Some (fault.OutOfRange I16)
    else if nat_eq n 13 then Some (fault.OutOfRange I32)
    else if nat_eq n 14 then Some (fault.OutOfRange I64)
    else if nat_eq n 15 then Some (fault.OutOfRange U8)
    else if nat_eq n 16 then Some (fault.OutOfRange U16)
    else if nat_eq n 17 then Some (fault.OutOfRange U32)
    else if nat_eq n 18 then Some (fault.OutOfRange U64)
    else if nat_eq n 19 then Some fault.FloatOverflow
    else if nat_eq n 20 then Some fault.FloatUnderflow
    else if nat_eq n 21 then Some (fault.NoInteger I8)
    else if nat_eq n 22 then Some (fault.NoInteger I16)
    else if nat_eq n 23 then Some (fault.NoInteger I32)
    else if nat_eq n 24 then Some (fault.NoInteger I64)
    else if nat_eq n 25 then Some (fault.NoInteger U8)
    else if nat_eq n 26 then Some (fault.NoInteger U16)
    else if nat_eq n 27 then Some (fault.NoInteger U32)
    else if nat_eq n 28 then Some (fault.NoInteger U64)
    else if nat_eq n 31 then Some fault.NoDate
    else if nat_eq n 32 then Some fault.NoTimestamp
    else if nat_eq n 33 then Some fault.NoFloat
    else if nat_eq n 34 then Some fault.NoDecimal
    else if nat_eq n 35 then Some fault.DecimalDigits
    else if nat_eq n 36 then Some fault.DateRange
    else if nat_eq n 37 then Some fault.TimestampRange
    else None

abbrev pub fault_text : RowFault → List ℕ
fault_text fault.ZeroDivisor = codes "division by zero"
fault_text fault.AbsOverflow = codes "integer overflow in abs"
fault_text fault.NegativeLength = codes "negative length in substr"
fault_text fault.TextTooLong = codes "text of more than 4294967295 bytes"
fault_text fault.IntegerOutOfRange = codes "integer out of range"
fault_text fault.ShiftCount = codes "shift by a count that is not from 0 to the bits of the type less 1"
fault_text fault.NoTruth = codes "text that is no truth value in cast to bool"
fault_text fault.OtherValues = codes "values of other types than the function takes"
fault_text fault.FieldZero = codes "field 0 in split_part, where the first field is 1"
fault_text fault.NoPattern = codes "text that is no regular expression"
fault_text fault.FloatOverflow = codes "value out of range: overflow"
fault_text fault.FloatUnderflow = codes "value out of range: underflow"
fault_text fault.NoDate = codes "text that is no date in cast"
fault_text fault.NoTimestamp = codes "text that is no timestamp in cast"
fault_text fault.NoFloat = codes "text that is no f64 number in cast"
fault_text fault.NoDecimal = codes "text that is no decimal of that scale in cast"
fault_text fault.DecimalDigits = codes "number of more digits than the decimal has in cast"
fault_text fault.DateRange = codes "date out of range"
fault_text fault.TimestampRange = codes "timestamp out of range"
fault_text (fault.OutOfRange I8) = codes "integer out of range in cast to i8"
fault_text (fault.OutOfRange I16) = codes "integer out of range in cast to i16"
fault_text (fault.OutOfRange I32) = codes "integer out of range in cast to i32"
fault_text (fault.OutOfRange I64) = codes "integer out of range in cast to i64"
fault_text (fault.OutOfRange U8) = codes "integer out of range in cast to u8"
fault_text (fault.OutOfRange U16) = codes "integer out of range in cast to u16"
fault_text (fault.OutOfRange U32) = codes "integer out of range in cast to u32"
fault_text (fault.OutOfRange U64) = codes "integer out of range in cast to u64"
fault_text (fault.NoInteger I8) = codes "text that is no i8 number in cast"
fault_text (fault.NoInteger I16) = codes "text that is no i16 number in cast"
fault_text (fault.NoInteger I32) = codes "text that is no i32 number in cast"
fault_text (fault.NoInteger I64) = codes "text that is no i64 number in cast"
fault_text (fault.NoInteger U8) = codes "text that is no u8 number in cast"
fault_text (fault.NoInteger U16) = codes "text that is no u16 number in cast"
fault_text (fault.NoInteger U32) = codes "text that is no u32 number in cast"
fault_text (fault.NoInteger U64) = codes "text that is no u64 number in cast"

abbrev pub faults_by : RowFault → Outcome
faults_by f = faults (custom (fault_number f))
