use Rattle.std.proofs.Common.{ap, ◌∙◌, sym, map, subst, length}
use Rattle.vortex_errors.proofs.Answering.{Answers-weaker}
use Rattle.vortex_types.specs.TypeOf.{type_of}
use Rattle.vortex_interface.specs.Outcomes.{HasCallRows, IsCallFault}
use Rattle.vortex_kernels.specs.Rows.{HasRows}
use Rattle.vortex_sql_calls.specs.Columns.{cell_row, AreCellsOf}
use Rattle.vortex_sql_calls.proofs.Rows.{called_rows, cells_typed}
use Rattle.vortex_sql_rows.specs.Laws.{answer_single}
use Rattle.vortex_sql_rows.specs.Row.{row_type, row_means}
use Rattle.vortex_sql_patterns.specs.RegexpExtract.{regexp_extract_row, regexp_extract_lawful}
use Rattle.vortex_sql_patterns.proofs.extract.RegexpExtract.execute.Goals as goal

pub column_of-requires-clause-single : goal.column_of-requires-clause-single
column_of-requires-clause-single g c =
    answer_single regexp_extract_row (map type_of c.deref.result.now)
    (type_of c.in_ok-dtype.dtype) c.in_ok-dtype.ensures

pub column_of-requires-clause-typed : goal.column_of-requires-clause-typed
column_of-requires-clause-typed g c =
    let r = regexp_extract_row in
    let cs = g.A.ExecutionArgs.inputs c.args.args.now in
    let n = g.A.ExecutionArgs.rows c.args.args.now in
    let t = type_of c.in_ok-dtype.dtype in
    let types = sym (ap (map type_of) c.deref.ensures.value ∙ c.in_ok-types.ensures) in
    subst (AreCellsOf t) (sym c.deref-2.ensures.value)
    (cells_typed r regexp_extract_lawful cs n t c.in_ok-rows.rows.items
    (ap (row_type r) types ∙ c.in_ok-dtype.ensures) c.in_ok-typed_inputs.ensures
    c.in_ok-rows.ensures)

pub returns : goal.returns
returns g c =
    let r = regexp_extract_row in
    let cs = g.A.ExecutionArgs.inputs c.args.args.now in
    let n = g.A.ExecutionArgs.rows c.args.args.now in
    let t = type_of c.in_ok-dtype.dtype in
    let cells = c.in_ok-rows.rows.items in
    let given = c.deref-2.result.now in
    let types = sym (ap (map type_of) c.deref.ensures.value ∙ c.in_ok-types.ensures) in
    Answers-weaker c.column_of.result (HasRows t (length given) (cell_row given))
    (HasCallRows (row_type r) (row_means r) cs n) (λ e. ⊥) (IsCallFault (row_means r) cs n)
    (λ d is. called_rows r cs n t cells d
    (ap (row_type r) types ∙ c.in_ok-dtype.ensures) c.in_ok-rows.ensures
    (subst (λ xs. HasRows t (length xs) (cell_row xs) d) c.deref-2.ensures.value is))
    (λ e p. absurd p) c.column_of.ensures
