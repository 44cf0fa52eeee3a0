use Rattle.std.proofs.Common.{◌≡◌, ◌<◌, ◌+◌, length, map, arith, sym, ap, ◌∙◌, subst}
use Rattle.regex.specs.Strings.{matcher_pattern}
use Rattle.vortex_columns.specs.declared.cell.Cell.TheVariants as cell
use Rattle.vortex_columns.specs.Cells.{cell_value}
use Rattle.vortex_interface.specs.Outcomes.{values_at, IsCallFault}
use Rattle.vortex_sql_calls.specs.Calls.{AnsweredRows}
use Rattle.vortex_sql_patterns.specs.PatternFunctions.{first_group, first_of, IsReadBy}
use Rattle.vortex_sql_patterns.specs.Lookups.{answer_for, function_of, lookup_of}
use Rattle.vortex_sql_calls.proofs.Rows.{pushed}
use Rattle.vortex_sql_rows.specs.AnsweredRows.{AnswersRow}
use Rattle.vortex_sql_patterns.proofs.Rows.{memory_alone, no_pattern_at, of_asked, passed_on}
use Rattle.vortex_sql_patterns.proofs.Rows.{refused_at}
use Rattle.vortex_sql_patterns.proofs.matched.push_run.Goals as goal

pub loop-i-init : goal.loop-i-init
loop-i-init g c =
    let w = c.args.lookup in
    let cs = g.A.ExecutionArgs.inputs c.args.args.now in
    let before = c.args.rows.now.items in
    let bs = c.args.row.0.now in
    let ps = c.args.row.1.now in
    let compiled : IsReadBy (function_of w) ps (matcher_pattern c.in_ok-matcher.matcher) =
    subst (IsReadBy (function_of w) ps) (sym c.in_ok-matcher.ensures.pattern) c.in_ok-regex.ensures.value in
    let first : c.first_group-first.result.number ≡ first_group (function_of w) ps =
    c.first_group-first.ensures ∙ ap first_of c.in_ok-regex.ensures.groups in
    let row = of_asked w (values_at cs (length before)) bs ps c.args.row.2.number c.requires.next
    ∙ c.in_ok-made.ensures.value ps compiled first in
    let end : c.len-i.result ≡ length before + 1 =
    omega (arith, c.len-i.ensures, c.in_ok-push.ensures.len, c.args.rows.now.ok.0) in
    record {
      compiled = subst (IsReadBy (function_of w) ps) (sym c.in_ok-made.ensures.same) compiled;
      more = omega (arith, c.len-i.ensures);
      answered = subst (λ n. AnsweredRows (lookup_of w) cs n c.push.new.self.items) (sym end)
          (pushed cell_value cell.Null (lookup_of w) cs (length before) before
          c.push.new.self.items c.in_ok-made.made c.requires.answered
          c.in_ok-push.ensures.items row);
    }

pub returns-in_err-regex-clause-answered : goal.returns-in_err-regex-clause-answered
returns-in_err-regex-clause-answered g c =
    let w = c.args.lookup in
    let cs = g.A.ExecutionArgs.inputs c.args.args.now in
    let n = g.A.ExecutionArgs.rows c.args.args.now in
    let made = c.from_residual in
    let e = c.in_err-regex.field-0.0 in
    passed_on made.result _ (IsCallFault (λ ts. lookup_of w) cs n) e made.ensures.0
    made.ensures.1
    (no_pattern_at w cs n (length c.args.rows.now.items) c.args.row.0.now c.args.row.1.now
    c.args.row.2.number e c.requires.below c.requires.next c.in_err-regex.ensures.value)

pub returns-in_err-made-clause-answered : goal.returns-in_err-made-clause-answered
returns-in_err-made-clause-answered g c =
    let w = c.args.lookup in
    let cs = g.A.ExecutionArgs.inputs c.args.args.now in
    let n = g.A.ExecutionArgs.rows c.args.args.now in
    let bs = c.args.row.0.now in
    let ps = c.args.row.1.now in
    let k = c.args.row.2.number in
    let i = length c.args.rows.now.items in
    let first : c.first_group-first.result.number ≡ first_group (function_of w) ps =
    c.first_group-first.ensures ∙ ap first_of c.in_ok-regex.ensures.groups in
    let compiled : IsReadBy (function_of w) ps (matcher_pattern c.in_ok-matcher.matcher) =
    subst (IsReadBy (function_of w) ps) (sym c.in_ok-matcher.ensures.pattern) c.in_ok-regex.ensures.value in
    let made = c.from_residual-in_err-made in
    let e = c.in_err-made.field-0.0 in
    passed_on made.result _ (IsCallFault (λ ts. lookup_of w) cs n) e made.ensures.0
    made.ensures.1
    (refused_at w cs n i (answer_for w bs ps k) e c.requires.below
    (of_asked w (values_at cs i) bs ps k c.requires.next)
    (c.in_err-made.ensures.value ps compiled first))

pub returns-in_err-cell-clause-answered : goal.returns-in_err-cell-clause-answered
returns-in_err-cell-clause-answered g c =
    let w = c.args.lookup in
    let cs = g.A.ExecutionArgs.inputs c.args.args.now in
    let n = g.A.ExecutionArgs.rows c.args.args.now in
    let same =
    sym c.in_ok-read_cells.ensures.values ∙ ap (map cell_value) (sym c.deref.ensures.value) in
    let i = c.loop-i.i in
    let lt : i < n = omega (arith, c.loop-i-test.true, c.row_count-i-end.ensures) in
    let row = lookup_of w (map cell_value c.deref.result.now) in
    let made = c.from_residual-in_err-cell in
    let e = c.in_err-cell.field-0.0 in
    passed_on made.result _ (IsCallFault (λ ts. lookup_of w) cs n) e made.ensures.0
    made.ensures.1
    (refused_at w cs n i row e lt (ap (lookup_of w) same)
    (subst (AnswersRow row) c.in_err-cell.was c.in-Some.ensures.value))

pub returns-in_err-read_cells-clause-answered : goal.returns-in_err-read_cells-clause-answered
returns-in_err-read_cells-clause-answered g c =
    let w = c.args.lookup in
    let cs = g.A.ExecutionArgs.inputs c.args.args.now in
    let fault = IsCallFault (λ ts. lookup_of w) cs (g.A.ExecutionArgs.rows c.args.args.now) in
    let made = c.from_residual-in_err-read_cells in
    let e = c.in_err-read_cells.field-0.0 in
    passed_on made.result _ fault e made.ensures.0 made.ensures.1
    (memory_alone fault e c.in_err-read_cells.ensures)

pub loop-i-preserved : goal.loop-i-preserved
loop-i-preserved g c =
    let w = c.args.lookup in
    let cs = g.A.ExecutionArgs.inputs c.args.args.now in
    let row = lookup_of w (map cell_value c.deref.result.now) in
    let same =
    sym c.in_ok-read_cells.ensures.values ∙ ap (map cell_value) (sym c.deref.ensures.value) in
    record {
      compiled =
          subst (IsReadBy (function_of w) c.args.row.1.now) (sym c.answer_by.ensures.same)
          c.loop-i.invariant.compiled;
      more = omega (arith, c.loop-i.invariant.more);
      answered = pushed cell_value cell.Null (lookup_of w) cs c.loop-i.i c.loop-i.rows.items
          c.push-in-loop-i.new.self.items c.in_ok-cell.cell c.loop-i.invariant.answered
          c.in_ok-push-2.ensures.items
          (ap (lookup_of w) same ∙ subst (AnswersRow row) c.in_ok-cell.was c.in-Some.ensures.value);
    }

pub returns-clause-most : goal.returns-clause-most
returns-clause-most g c =
    omega (
      arith,
      c.loop-i.invariant.answered.count,
      c.loop-i-test.false,
      c.row_count-i-end.ensures,
      c.loop-i.auto.i,
      c.loop-i.auto.i-end,
      c.len-i.ensures,
      c.in_ok-push.ensures.len,
      c.args.rows.now.ok.0,
      c.requires.below,
    )
