-- What a read that failed ends, and the status with which a program tells what ended a stream.
use Rattle.std.specs.Prelude.{ℕ, Option, Some, None}
use Rattle.rowfn_csv.specs.declared.records.RecordError.{RecordError}
use Rattle.rowfn_csv.specs.declared.records.RecordError.TheVariants as read
use Rattle.rowfn_batches.specs.declared.errors.StreamError.{StreamError}
use Rattle.rowfn_batches.specs.declared.errors.StreamError.TheVariants as end

abbrev pub read_ending : RecordError → StreamError
read_ending (read.Io e) = end.Reading e
read_ending read.OutOfMemory = end.OutOfMemory

-- 1 for a fault of an answer, 2 for input that does not fit, 3 for reading, writing and memory, 4 for
-- names or answers that cannot be written
abbrev pub status_of : StreamError → ℕ
status_of (end.Fault row e text) = 1
status_of (end.Refused e) = 1
status_of (end.NoText row name kind) = 1
status_of (end.Misfit row column kind dtype field) = 2
status_of (end.TextsTooLong column) = 2
status_of (end.ColumnMissing name) = 2
status_of (end.ColumnTwice name) = 2
status_of (end.PlaceMissing name place found) = 2
status_of (end.Width row wanted found) = 2
status_of (end.OpenQuote row) = 2
status_of end.OpenHeader = 2
status_of (end.FieldTooLong row limit) = 2
status_of (end.HeaderTooLong limit) = 2
status_of (end.Reading e) = 3
status_of (end.Writing e) = 3
status_of (end.AnswerTwice name) = 4
status_of (end.RowsLost name) = 4
status_of (end.NameTaken name) = 4
status_of end.OutOfMemory = 3

-- the number of the row that is refused, where one is
abbrev pub row_told : StreamError → Option ℕ
row_told (end.Fault row e text) = Some row
row_told (end.NoText row name kind) = Some row
row_told (end.Misfit row column kind dtype field) = Some row
row_told (end.Width row wanted found) = Some row
row_told (end.OpenQuote row) = Some row
row_told (end.FieldTooLong row limit) = Some row
row_told e = None

-- the same, where rows behind it can be read: a field that is too long was not read to its end
abbrev pub row_left_out : StreamError → Option ℕ
row_left_out (end.FieldTooLong row limit) = None
row_left_out e = row_told e
