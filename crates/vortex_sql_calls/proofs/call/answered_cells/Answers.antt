use Rattle.std.proofs.Common.{ap, ◌∙◌, sym, map, arith, subst}
use Rattle.vortex_columns.specs.declared.cell.Cell.TheVariants as cell
use Rattle.vortex_columns.specs.Cells.{cell_value}
use Rattle.vortex_sql_rows.specs.Row.{row_gives, RefusesRow}
use Rattle.vortex_sql_calls.proofs.Rows.{pushed, fault_at}
use Rattle.vortex_sql_calls.proofs.call.answered_cells.Goals as goal

pub loop-i-preserved : goal.loop-i-preserved
loop-i-preserved g c =
    let means = row_gives (g.F.RowFn.about c.args.function.now) c.args.ptype in
    let same = sym c.in_ok-read_cells.ensures.values ∙ ap (map cell_value) (sym c.deref.ensures.value) in
    pushed cell_value cell.Null means (g.A.ExecutionArgs.inputs c.args.args.now) c.loop-i.i
    c.loop-i.rows.items c.push.new.self.items c.in-Ok.made c.loop-i.invariant
    c.in_ok-push-in-Ok.ensures.items (ap means same ∙ c.in-Ok.ensures)

pub returns-in-Err : goal.returns-in-Err
returns-in-Err g c =
    let means = row_gives (g.F.RowFn.about c.args.function.now) c.args.ptype in
    let same = ap (map cell_value) c.deref.ensures.value ∙ c.in_ok-read_cells.ensures.values in
    fault_at means (g.A.ExecutionArgs.inputs c.args.args.now)
    (g.A.ExecutionArgs.rows c.args.args.now) c.loop-i.i c.in-Err.error
    (omega (arith, c.row_count-i-end.ensures))
    (subst (λ vs. RefusesRow (means vs) c.in-Err.error) same c.in-Err.ensures)
