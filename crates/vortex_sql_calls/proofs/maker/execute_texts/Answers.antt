use Rattle.std.proofs.Common.{◌≡◌, ap, ◌∙◌, sym, map, subst, length}
use Rattle.vortex_errors.proofs.Answering.{Answers-weaker}
use Rattle.vortex_types.specs.TypeOf.{type_of}
use Rattle.vortex_interface.specs.Outcomes.{HasCallRows, IsCallFault, types_in}
use Rattle.vortex_kernels.specs.Rows.{HasRows}
use Rattle.vortex_sql_calls.specs.Columns.{cell_row, AreCellsOf}
use Rattle.vortex_sql_rows.specs.Types.{are_taken, main_type, ptype_in}
use Rattle.vortex_sql_calls.specs.Calls.{MadeRows}
use Rattle.vortex_sql_rows.specs.AnsweredRows.{text_or_null}
use Rattle.vortex_sql_rows.specs.Row.{row_type, row_means, row_gives, row_ptype}
use Rattle.vortex_sql_rows.specs.Laws.{accepted, answer_single}
use Rattle.vortex_sql_calls.proofs.MadeRows.{made_answers}
use Rattle.vortex_sql_calls.proofs.Rows.{called_rows, cells_typed}
use Rattle.vortex_sql_calls.proofs.maker.execute_texts.Goals as goal

pub main_ptype-ptype-requires : goal.main_ptype-ptype-requires
main_ptype-ptype-requires g c =
    let r = g.F.TextFn.about c.args.function.now in
    let same = ap (map type_of) (c.deref-2.ensures.value ∙ sym c.deref.ensures.value) in
    let taken = accepted r (map type_of c.deref.result.now) (type_of c.in_ok-dtype.dtype) c.in_ok-dtype.ensures in
    ap (λ s. are_taken s.takes (map type_of c.deref-2.result.now)) c.signature.ensures.types
    ∙ ap (are_taken r.types.takes) same ∙ taken.taken

pub column_of-requires-clause-single : goal.column_of-requires-clause-single
column_of-requires-clause-single g c =
    answer_single (g.F.TextFn.about c.args.function.now) (map type_of c.deref.result.now)
    (type_of c.in_ok-dtype.dtype) c.in_ok-dtype.ensures

pub column_of-requires-clause-typed : goal.column_of-requires-clause-typed
column_of-requires-clause-typed g c =
    let r = g.F.TextFn.about c.args.function.now in
    let cs = g.A.ExecutionArgs.inputs c.args.args.now in
    let n = g.A.ExecutionArgs.rows c.args.args.now in
    let t = type_of c.in_ok-dtype.dtype in
    let cells = c.in_ok-cells.cells.items in
    let made = c.in_ok-made.made.items in
    let types = sym (ap (map type_of) c.deref.ensures.value ∙ c.in_ok-types.ensures) in
    let again = ap (map type_of) c.deref-2.ensures.value ∙ c.in_ok-types.ensures in
    let ptype : c.main_ptype-ptype.result ≡ row_ptype r (types_in cs) =
    c.main_ptype-ptype.ensures
    ∙ ap (λ s. ptype_in (main_type s.takes (map type_of c.deref-2.result.now))) c.signature.ensures.types
    ∙ ap (row_ptype r) again in
    let answered = made_answers (row_gives r (row_ptype r (types_in cs))) cs n made cells
    (subst (λ p. MadeRows (row_gives r p) cs n made) ptype c.in_ok-made.ensures)
    (c.in_ok-cells.ensures ∙ ap (map text_or_null) c.deref-3.ensures.value) in
    subst (AreCellsOf t) (sym c.deref-4.ensures.value)
    (cells_typed r (g.met.F.TextFn.lawful c.args.function.now) cs n t cells
    (ap (row_type r) types ∙ c.in_ok-dtype.ensures) c.in_ok-typed_inputs.ensures
    answered)

pub returns : goal.returns
returns g c =
    let r = g.F.TextFn.about c.args.function.now in
    let cs = g.A.ExecutionArgs.inputs c.args.args.now in
    let n = g.A.ExecutionArgs.rows c.args.args.now in
    let t = type_of c.in_ok-dtype.dtype in
    let cells = c.in_ok-cells.cells.items in
    let made = c.in_ok-made.made.items in
    let given = c.deref-4.result.now in
    let types = sym (ap (map type_of) c.deref.ensures.value ∙ c.in_ok-types.ensures) in
    let again = ap (map type_of) c.deref-2.ensures.value ∙ c.in_ok-types.ensures in
    let ptype : c.main_ptype-ptype.result ≡ row_ptype r (types_in cs) =
    c.main_ptype-ptype.ensures
    ∙ ap (λ s. ptype_in (main_type s.takes (map type_of c.deref-2.result.now))) c.signature.ensures.types
    ∙ ap (row_ptype r) again in
    let answered = made_answers (row_gives r (row_ptype r (types_in cs))) cs n made cells
    (subst (λ p. MadeRows (row_gives r p) cs n made) ptype c.in_ok-made.ensures)
    (c.in_ok-cells.ensures ∙ ap (map text_or_null) c.deref-3.ensures.value) in
    Answers-weaker c.column_of.result (HasRows t (length given) (cell_row given))
    (HasCallRows (row_type r) (row_means r) cs n) (λ e. ⊥)
    (IsCallFault (row_means r) cs n)
    (λ d is. called_rows r cs n t cells d (ap (row_type r) types ∙ c.in_ok-dtype.ensures)
    answered
    (subst (λ xs. HasRows t (length xs) (cell_row xs) d) c.deref-4.ensures.value is))
    (λ e p. absurd p) c.column_of.ensures
