use Rattle.std.proofs.Common.{ap, ◌∙◌, sym, map, subst, length}
use Rattle.vortex_errors.proofs.Answering.{Answers-weaker}
use Rattle.vortex_types.specs.TypeOf.{type_of}
use Rattle.vortex_interface.specs.Outcomes.{HasCallRows, IsCallFault}
use Rattle.vortex_kernels.specs.Rows.{HasRows}
use Rattle.vortex_sql_calls.specs.Columns.{cell_row, AreCellsOf}
use Rattle.vortex_sql_calls.proofs.MadeRows.{made_answers}
use Rattle.vortex_sql_calls.proofs.Rows.{called_rows, cells_typed}
use Rattle.vortex_sql_rows.specs.AnsweredRows.{text_or_null}
use Rattle.vortex_sql_rows.specs.Row.{row_type, row_means}
use Rattle.vortex_sql_patterns.specs.RegexpReplace.{regexp_replace_lawful, replace_of, regexp_replace_row}
use Rattle.vortex_sql_patterns.proofs.replace.RegexpReplace.execute.Goals as goal

pub column_of-requires-clause-typed : goal.column_of-requires-clause-typed
column_of-requires-clause-typed g c =
    let cs = g.A.ExecutionArgs.inputs c.args.args.now in
    let n = g.A.ExecutionArgs.rows c.args.args.now in
    let t = type_of c.in_ok-dtype.dtype in
    let cells = c.in_ok-cells.cells.items in
    let types = sym (ap (map type_of) c.deref.ensures.value ∙ c.in_ok-types.ensures) in
    let answered = made_answers replace_of cs n c.in_ok-made.made.items cells c.in_ok-made.ensures
    (c.in_ok-cells.ensures ∙ ap (map text_or_null) c.deref-2.ensures.value) in
    subst (AreCellsOf t) (sym c.deref-3.ensures.value)
    (cells_typed regexp_replace_row regexp_replace_lawful cs n t cells
    (ap (row_type regexp_replace_row) types ∙ c.in_ok-dtype.ensures) c.in_ok-typed_inputs.ensures
    answered)

pub returns : goal.returns
returns g c =
    let cs = g.A.ExecutionArgs.inputs c.args.args.now in
    let n = g.A.ExecutionArgs.rows c.args.args.now in
    let t = type_of c.in_ok-dtype.dtype in
    let cells = c.in_ok-cells.cells.items in
    let given = c.deref-3.result.now in
    let types = sym (ap (map type_of) c.deref.ensures.value ∙ c.in_ok-types.ensures) in
    let answered = made_answers replace_of cs n c.in_ok-made.made.items cells c.in_ok-made.ensures
    (c.in_ok-cells.ensures ∙ ap (map text_or_null) c.deref-2.ensures.value) in
    Answers-weaker c.column_of.result (HasRows t (length given) (cell_row given))
    (HasCallRows (row_type regexp_replace_row) (row_means regexp_replace_row) cs n) (λ e. ⊥)
    (IsCallFault (row_means regexp_replace_row) cs n)
    (λ d is. called_rows regexp_replace_row cs n t cells d
    (ap (row_type regexp_replace_row) types ∙ c.in_ok-dtype.ensures) answered
    (subst (λ xs. HasRows t (length xs) (cell_row xs) d) c.deref-3.ensures.value is))
    (λ e p. absurd p) c.column_of.ensures
