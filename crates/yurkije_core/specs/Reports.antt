-- What is told of a refusal by its numbers.
use Rattle.std.specs.Prelude.{◌≡◌, ℕ, if◌then◌else◌}
use Rattle.vortex_arrow.specs.declared.error.ArrowError.{ArrowError}
use Rattle.vortex_arrow.specs.declared.error.ArrowError.TheVariants as arrow
use Rattle.vortex_expressions.specs.declared.error.TextError.{TextError}
use Rattle.vortex_expressions.specs.Reading.{is_want_of_memory}
use Rattle.yurkije_columns.specs.declared.batch.ColumnFault.{ColumnFault}
use Rattle.yurkije_columns.specs.declared.batch.ColumnFault.TheVariants as column
use Rattle.yurkije_columns.specs.declared.batch.ColumnError.{ColumnError}
use Rattle.yurkije_columns.specs.declared.fields.ScopeFault.{ScopeFault}
use Rattle.yurkije_columns.specs.declared.fields.ScopeFault.TheVariants as scope
use Rattle.yurkije_columns.specs.declared.fields.FieldError.{FieldError}
use Rattle.yurkije_columns.specs.declared.borrowed.BorrowedError.{BorrowedError}
use Rattle.yurkije_columns.specs.declared.borrowed.BorrowedError.TheVariants as borrowed
use Rattle.vortex_program.specs.declared.running.RunError as fault
use Rattle.vortex_program.specs.declared.running.RunError.TheVariants as fault_of
use Rattle.yurkije_columns.specs.Statuses.{scope_status, column_status}
use Rattle.yurkije_core.specs.declared.reading.ProgramError.{ProgramError}
use Rattle.yurkije_core.specs.declared.reading.ProgramError.TheVariants as program
use Rattle.yurkije_core.specs.declared.running.BatchRunError.{BatchRunError}
use Rattle.yurkije_core.specs.declared.running.BatchRunError.TheVariants as run
use Rattle.yurkije_core.specs.declared.report.Report.{Report}
use Rattle.yurkije_core.specs.declared.report.ErrorNumbers.{ErrorNumbers}
use Rattle.yurkije_core.specs.Statuses.{program_status, run_status}

-- in the place of a number, where there is none to tell
abbrev pub none : ℕ
none = 18446744073709551615

-- a status at no place
abbrev pub nowhere : ℕ → ErrorNumbers
nowhere s = record {
  status = s;
  answer = none;
  column = none;
  row = none;
  byte = none;
  line = 0;
  character = 0;
}

-- a status of a column, and of a row of it
abbrev pub of_column : ℕ → ℕ → ErrorNumbers
of_column k s = record {
  status = s;
  answer = none;
  column = k;
  row = none;
  byte = none;
  line = 0;
  character = 0;
}

abbrev pub of_row : ℕ → ℕ → ℕ → ErrorNumbers
of_row k r s = record {
  status = s;
  answer = none;
  column = k;
  row = r;
  byte = none;
  line = 0;
  character = 0;
}

-- the field that is wrong
abbrev pub field_told : ℕ → ScopeFault → ErrorNumbers
field_told k scope.OutOfMemory = nowhere (scope_status scope.OutOfMemory)
field_told k f = of_column k (scope_status f)

abbrev pub scope_told : FieldError → ErrorNumbers
scope_told e = field_told e.field e.fault

-- the place in the text
abbrev pub text_told : TextError → ℕ → ErrorNumbers
text_told e s =
    if is_want_of_memory e then nowhere s
    else record {
      status = s;
      answer = none;
      column = none;
      row = none;
      byte = e.byte;
      line = e.line;
      character = e.column;
    }

abbrev pub program_told : ProgramError → ErrorNumbers
program_told program.NotUtf8 = nowhere (program_status program.NotUtf8)
program_told (program.Text e) = text_told e (program_status (program.Text e))

-- the column, and the row where one is wrong
abbrev pub arrow_told : ℕ → ArrowError → ℕ → ErrorNumbers
arrow_told k (arrow.UnexpectedNull r) s = of_row k r s
arrow_told k (arrow.InvalidValue r f) s = of_row k r s
arrow_told k (arrow.NotUtf8 r) s = of_row k r s
arrow_told k arrow.OutOfMemory s = nowhere s
arrow_told k e s = of_column k s

abbrev pub column_told : ℕ → ColumnFault → ErrorNumbers
column_told k (column.Unread e) = arrow_told k e (column_status (column.Unread e))
column_told k f = of_column k (column_status f)

abbrev pub batch_told : ColumnError → ErrorNumbers
batch_told e = column_told e.column e.fault

abbrev pub borrowed_told : BorrowedError → ErrorNumbers
borrowed_told (borrowed.UnknownKind k) = of_column k 102
borrowed_told borrowed.OutOfMemory = nowhere 9

-- the row and the answer that faults in it
abbrev pub fault_told : fault.RunError → ℕ → ErrorNumbers
fault_told (fault_of.Fault r k e) s = record {
  status = s;
  answer = k;
  column = none;
  row = r;
  byte = none;
  line = 0;
  character = 0;
}
fault_told e s = nowhere s

abbrev pub run_told : BatchRunError → ErrorNumbers
run_told (run.Batch e) = batch_told e
run_told (run.Program e) = fault_told e (run_status (run.Program e))

-- the report has the numbers
pub record Tells (r : Report) (t : ErrorNumbers) : Type 0 where
  pub status : r.status ≡ t.status
  pub answer : r.answer ≡ t.answer
  pub column : r.column ≡ t.column
  pub row : r.row ≡ t.row
  pub byte : r.byte ≡ t.byte
  pub line : r.line ≡ t.line
  pub character : r.character ≡ t.character
