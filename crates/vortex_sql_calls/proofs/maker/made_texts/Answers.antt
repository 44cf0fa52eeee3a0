use Rattle.std.proofs.Common.{None, ap, ◌∙◌, sym, map, arith, subst}
use Rattle.vortex_columns.specs.Cells.{cell_value}
use Rattle.vortex_interface.specs.Outcomes.{IsCallFault}
use Rattle.vortex_sql_rows.specs.AnsweredRows.{text_or_null}
use Rattle.vortex_sql_rows.specs.Row.{row_gives, RefusesRow}
use Rattle.vortex_sql_calls.proofs.Rows.{fault_at, pushed}
use Rattle.vortex_sql_calls.proofs.MadeRows.{made_fault}
use Rattle.vortex_sql_calls.proofs.maker.made_texts.Goals as goal

pub loop-i-preserved : goal.loop-i-preserved
loop-i-preserved g c =
    let means = row_gives (g.F.TextFn.about c.args.function.now) c.args.ptype in
    let same = sym c.in_ok-read_cells.ensures.values ∙ ap (map cell_value) (sym c.deref.ensures.value) in
    pushed text_or_null None means (g.A.ExecutionArgs.inputs c.args.args.now) c.loop-i.i
    c.loop-i.rows.items c.push.new.self.items c.in-Ok.made c.loop-i.invariant
    c.in_ok-push-in-Ok.ensures.items (ap means same ∙ c.in-Ok.ensures)

pub returns-in-Err : goal.returns-in-Err
returns-in-Err g c =
    let means = row_gives (g.F.TextFn.about c.args.function.now) c.args.ptype in
    let same = ap (map cell_value) c.deref.ensures.value ∙ c.in_ok-read_cells.ensures.values in
    let n = g.A.ExecutionArgs.rows c.args.args.now in
    let cs = g.A.ExecutionArgs.inputs c.args.args.now in
    made_fault (RefusesRow (means (map cell_value c.deref.result.now)))
    (IsCallFault (λ ts. means) cs n)
    (λ e r.
    fault_at means cs n c.loop-i.i e (omega (arith, c.row_count-i-end.ensures))
    (subst (λ vs. RefusesRow (means vs) e) same r))
    c.in-Err.error c.in-Err.ensures
