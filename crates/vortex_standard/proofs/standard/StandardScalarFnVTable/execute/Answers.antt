-- In the arm of a function the call is that of its row.
use Rattle.std.proofs.Common.{sym, subst}
use Rattle.std.specs.Prelude.{ℕ, List, Result}
use Rattle.vortex_errors.specs.Answers.{Answers}
use Rattle.vortex_errors.specs.declared.error.VortexError.{VortexError}
use Rattle.vortex_columns.specs.ColumnView.{ColumnView}
use Rattle.vortex_interface.specs.Outcomes.{HasCallRows, IsCallFault}
use Rattle.vortex_sql_floats.specs.Decimals.{decimal_row}
use Rattle.vortex_sql_rows.specs.Row.{Row, row_type, row_means}
use Rattle.vortex_standard.specs.Standard.{row_of}
use Rattle.vortex_standard.proofs.standard.StandardScalarFnVTable.execute.Goals as goal

abbrev AnswersRow : Result ColumnView VortexError → List ColumnView → ℕ → Row → Type 0
AnswersRow result inputs n row =
    Answers result (HasCallRows (row_type row) (row_means row) inputs n)
    (IsCallFault (row_means row) inputs n)

pub returns-in-TryTextToDateBy : goal.returns-in-TryTextToDateBy
returns-in-TryTextToDateBy g c =
    let call = AnswersRow c.execute_rows-in-TryTextToDateBy.result
    (g.A.ExecutionArgs.inputs c.args.args.now) (g.A.ExecutionArgs.rows c.args.args.now) in
    subst (λ f. call (row_of f)) (sym c.in-TryTextToDateBy.is) c.execute_rows-in-TryTextToDateBy.ensures

pub returns-in-TryTextToTimestampBy : goal.returns-in-TryTextToTimestampBy
returns-in-TryTextToTimestampBy g c =
    let call = AnswersRow c.execute_rows-in-TryTextToTimestampBy.result
    (g.A.ExecutionArgs.inputs c.args.args.now) (g.A.ExecutionArgs.rows c.args.args.now) in
    subst (λ f. call (row_of f)) (sym c.in-TryTextToTimestampBy.is) c.execute_rows-in-TryTextToTimestampBy.ensures

pub returns-in-TryTextToDecimal : goal.returns-in-TryTextToDecimal
returns-in-TryTextToDecimal g c =
    let call = AnswersRow c.execute_rows-in-TryTextToDecimal.result
    (g.A.ExecutionArgs.inputs c.args.args.now) (g.A.ExecutionArgs.rows c.args.args.now) in
    subst (λ f. call (row_of f)) (sym c.in-TryTextToDecimal.is) c.execute_rows-in-TryTextToDecimal.ensures

pub returns-in-TryDecimalScaled : goal.returns-in-TryDecimalScaled
returns-in-TryDecimalScaled g c =
    let call = AnswersRow c.execute_rows-in-TryDecimalScaled.result
    (g.A.ExecutionArgs.inputs c.args.args.now) (g.A.ExecutionArgs.rows c.args.args.now) in
    subst (λ f. call (row_of f)) (sym c.in-TryDecimalScaled.is) c.execute_rows-in-TryDecimalScaled.ensures

pub returns-in-TryFloatToDecimal : goal.returns-in-TryFloatToDecimal
returns-in-TryFloatToDecimal g c =
    let call = AnswersRow c.execute_rows-in-TryFloatToDecimal.result
    (g.A.ExecutionArgs.inputs c.args.args.now) (g.A.ExecutionArgs.rows c.args.args.now) in
    subst (λ f. call (row_of f)) (sym c.in-TryFloatToDecimal.is) c.execute_rows-in-TryFloatToDecimal.ensures

pub returns-in-DecimalToFloat : goal.returns-in-DecimalToFloat
returns-in-DecimalToFloat g c =
    let call = AnswersRow c.execute_rows-in-DecimalToFloat.result
    (g.A.ExecutionArgs.inputs c.args.args.now) (g.A.ExecutionArgs.rows c.args.args.now) in
    subst (λ f. call (row_of f)) (sym c.in-DecimalToFloat.is)
    (subst (λ n. call (decimal_row n)) c.number.ensures c.execute_rows-in-DecimalToFloat.ensures)
