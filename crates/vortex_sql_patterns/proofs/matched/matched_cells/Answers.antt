use Rattle.std.proofs.Common.{◌≡◌, ◌+◌, length, map, arith, sym, ap, ◌∙◌, subst}
use Rattle.vortex_columns.specs.declared.cell.Cell.TheVariants as cell
use Rattle.vortex_columns.specs.Cells.{cell_value}
use Rattle.vortex_interface.specs.Outcomes.{values_at}
use Rattle.vortex_sql_calls.specs.Calls.{AnsweredRows}
use Rattle.vortex_sql_calls.proofs.Rows.{pushed}
use Rattle.vortex_sql_patterns.specs.Lookups.{lookup_of}
use Rattle.vortex_sql_patterns.proofs.Rows.{of_null}
use Rattle.vortex_sql_patterns.proofs.matched.matched_cells.Goals as goal

pub rows-preserved : goal.rows-preserved
rows-preserved g c =
    let w = c.args.lookup in
    let cs = g.A.ExecutionArgs.inputs c.args.args.now in
    let before = c.rows.rows.items in
    let i : c.len-in-rows.result ≡ length before =
    omega (arith, c.len-in-rows.ensures, c.rows.rows.ok.0) in
    let end : length c.push.new.self.items ≡ length before + 1 =
    omega (arith, c.in_ok-push-in-None.ensures.len, c.rows.rows.ok.0, c.push.new.self.ok.0) in
    let same =
    ap (values_at cs) (sym i) ∙ sym c.in_ok-read_cells.ensures.values
    ∙ ap (map cell_value) (sym c.deref.ensures.value) in
    let row =
    ap (lookup_of w) same ∙ of_null w (map cell_value c.deref.result.now) (sym c.in-None.ensures) in
    record {
      most =
          omega (arith, end, c.rows-test.true, c.len.ensures, c.row_count.ensures, c.rows.rows.ok.0);
      answered = subst (λ n. AnsweredRows (lookup_of w) cs n c.push.new.self.items) (sym end)
          (pushed cell_value cell.Null (lookup_of w) cs (length before) before
          c.push.new.self.items cell.Null c.rows.invariant.answered
          c.in_ok-push-in-None.ensures.items row);
    }
