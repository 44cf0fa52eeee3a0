use Rattle.std.proofs.Common.{◌≡◌, ◌+◌, None, ap, arith, length, map, subst, sym, ◌∙◌}
use Rattle.vortex_columns.specs.Cells.{cell_value}
use Rattle.vortex_interface.specs.Outcomes.{values_at}
use Rattle.vortex_sql_calls.specs.Calls.{MadeRows}
use Rattle.vortex_sql_calls.proofs.Rows.{pushed}
use Rattle.vortex_sql_rows.specs.AnsweredRows.{text_or_null}
use Rattle.vortex_sql_patterns.specs.RegexpReplace.{replace_of}
use Rattle.vortex_sql_patterns.proofs.replaced_rows.replaced_texts.Goals as goal

pub rows-preserved : goal.rows-preserved
rows-preserved g c =
    let cs = g.A.ExecutionArgs.inputs c.args.args.now in
    let before = c.rows.rows.items in
    let i : c.len-in-rows.result ≡ length before =
    omega (arith, c.len-in-rows.ensures, c.rows.rows.ok.0) in
    let end : length c.push.new.self.items ≡ length before + 1 =
    omega (arith, c.in_ok-push-in-None.ensures.len, c.rows.rows.ok.0, c.push.new.self.ok.0) in
    let same =
    ap (values_at cs) (sym i) ∙ sym c.in_ok-read_cells.ensures.values
    ∙ ap (map cell_value) (sym c.deref-in-None.ensures.value) in
    let row = ap replace_of same ∙ c.in_ok-made-in-None.ensures in
    record {
      most =
          omega (arith, end, c.rows-test.true, c.len.ensures, c.row_count.ensures, c.rows.rows.ok.0);
      made = subst (λ n. MadeRows replace_of cs n c.push.new.self.items) (sym end)
          (pushed text_or_null None replace_of cs (length before) before
          c.push.new.self.items c.in_ok-made-in-None.made c.rows.invariant.made
          c.in_ok-push-in-None.ensures.items row);
    }
