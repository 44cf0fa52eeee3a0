use Rattle.std.specs.Prelude.{IfSome}
use Rattle.vortex_errors.proofs.Answering.{Answers-weaker}
use Rattle.vortex_interface.specs.Outcomes.{HasCallRows}
use Rattle.vortex_sql_rows.specs.Row.{row_type, row_means}
use Rattle.vortex_sql_floats.specs.ArithmeticRows.{operator_row}
use Rattle.vortex_sql_float_columns.specs.KeyedRows.{HasFloatRows}
use Rattle.vortex_sql_float_columns.proofs.FloatRows.{call_rows, weaker_some}
use Rattle.vortex_sql_float_columns.proofs.execute.calculated.Goals as goal

pub returns : goal.returns
returns g c =
    let op = c.args.operator in
    let cs = g.A.ExecutionArgs.inputs c.args.args.now in
    let n = g.A.ExecutionArgs.rows c.args.args.now in
    let l = c.in_ok-left.left.now in
    let r = c.in_ok-right.right.now in
    let rows = HasCallRows (row_type (operator_row op)) (row_means (operator_row op)) cs n in
    Answers-weaker c.keyed_columns.result (λ made. IfSome made (HasFloatRows op l r))
    (λ made. IfSome made rows) (λ e. ⊥) (λ e. ⊥)
    (λ made h.
    weaker_some made (HasFloatRows op l r) rows
    (λ d is.
    call_rows op cs l r d n c.in_ok-left.ensures.input c.in_ok-right.ensures.input
    c.requires.count c.in_ok-left.ensures.count c.requires.accepted is)
    h)
    (λ e p. p) c.keyed_columns.ensures
