use Rattle.std.proofs.Common.{◌≡◌, ◌<◌, ◌+◌, None, ap, arith, length, map, refl, subst, sym, ◌∙◌}
use Rattle.regex.specs.Strings.{matcher_pattern}
use Rattle.vortex_errors.specs.declared.error.VortexError.TheVariants.{Custom}
use Rattle.vortex_columns.specs.Cells.{cell_value}
use Rattle.vortex_interface.specs.Outcomes.{custom, values_at, IsCallFault}
use Rattle.vortex_sql_calls.specs.Calls.{MadeRows}
use Rattle.vortex_sql_calls.proofs.Rows.{pushed}
use Rattle.vortex_sql_rows.specs.declared.faults.RowFault.TheVariants.{NoPattern}
use Rattle.vortex_sql_rows.specs.AnsweredRows.{text_or_null, MakesRow}
use Rattle.vortex_sql_rows.specs.Faults.{fault_number, faults_by}
use Rattle.vortex_sql_patterns.specs.Patterns.{pattern_in, IsPatternOf}
use Rattle.vortex_sql_patterns.specs.RegexpReplace.{asked_by, in_case, replace_of, replaced_by}
use Rattle.vortex_sql_patterns.proofs.ReplacedRows.{of_flags, of_no_flags, refused_pattern}
use Rattle.vortex_sql_patterns.proofs.ReplacedRows.{refused_row}
use Rattle.vortex_sql_patterns.proofs.Rows.{memory_alone, passed_on}
use Rattle.vortex_sql_patterns.proofs.replaced_rows.push_run.Goals as goal

pub returns-in_default-clause-made : goal.returns-in_default-clause-made
returns-in_default-clause-made g c =
    let cs = g.A.ExecutionArgs.inputs c.args.args.now in
    let n = g.A.ExecutionArgs.rows c.args.args.now in
    let i = length c.args.rows.now.items in
    let a = asked_by c.args.first.now in
    refused_row cs n i (Custom c.number.result) c.requires.below (faults_by NoPattern)
    (of_no_flags (values_at cs i) a c.requires.next (sym c.in_default.ensures))
    (custom (fault_number NoPattern), refl, ap Custom c.number.ensures)

pub returns-in_err-regex-clause-made : goal.returns-in_err-regex-clause-made
returns-in_err-regex-clause-made g c =
    let cs = g.A.ExecutionArgs.inputs c.args.args.now in
    let n = g.A.ExecutionArgs.rows c.args.args.now in
    let i = length c.args.rows.now.items in
    let a = asked_by c.args.first.now in
    let made = c.from_residual in
    let e = c.in_err-regex.field-0.0 in
    passed_on made.result (λ x. MadeRows replace_of cs i c.args.rows.now.items)
    (IsCallFault (λ ts. replace_of) cs n) e made.ensures.0 made.ensures.1
    (refused_pattern cs n i e c.requires.below a c.in-Some.flags c.requires.next
    (sym c.in-Some.ensures) c.in_err-regex.ensures)

pub returns-in_err-made-clause-made : goal.returns-in_err-made-clause-made
returns-in_err-made-clause-made g c =
    let cs = g.A.ExecutionArgs.inputs c.args.args.now in
    let n = g.A.ExecutionArgs.rows c.args.args.now in
    let i = length c.args.rows.now.items in
    let a = asked_by c.args.first.now in
    let x = c.in-Some.flags in
    let ps = in_case x.1 a.pattern in
    let compiled : IsPatternOf ps (matcher_pattern c.in_ok-matcher.matcher) =
    subst (IsPatternOf ps) (sym c.in_ok-matcher.ensures.pattern) c.in_ok-regex.ensures in
    let made = c.from_residual-in_err-made in
    let e = c.in_err-made.field-0.0 in
    passed_on made.result _ (IsCallFault (λ ts. replace_of) cs n) e made.ensures.0 made.ensures.1
    (refused_row cs n i e c.requires.below (replaced_by x.0 a.text a.other (pattern_in ps))
    (of_flags (values_at cs i) a x c.requires.next (sym c.in-Some.ensures))
    (c.in_err-made.ensures.value ps compiled))

pub loop-i-init : goal.loop-i-init
loop-i-init g c =
    let cs = g.A.ExecutionArgs.inputs c.args.args.now in
    let before = c.args.rows.now.items in
    let a = asked_by c.args.first.now in
    let x = c.in-Some.flags in
    let ps = in_case x.1 a.pattern in
    let compiled : IsPatternOf ps (matcher_pattern c.in_ok-matcher.matcher) =
    subst (IsPatternOf ps) (sym c.in_ok-matcher.ensures.pattern) c.in_ok-regex.ensures in
    let row = of_flags (values_at cs (length before)) a x c.requires.next (sym c.in-Some.ensures)
    ∙ c.in_ok-made.ensures.value ps compiled in
    let end : c.len-i.result ≡ length before + 1 =
    omega (arith, c.len-i.ensures, c.in_ok-push.ensures.len, c.args.rows.now.ok.0) in
    record {
      compiled = subst (IsPatternOf ps) (sym c.in_ok-made.ensures.same) compiled;
      more = omega (arith, c.len-i.ensures);
      made = subst (λ k. MadeRows replace_of cs k c.push.new.self.items) (sym end)
          (pushed text_or_null None replace_of cs (length before) before
          c.push.new.self.items c.in_ok-made.made c.requires.made
          c.in_ok-push.ensures.items row);
    }

pub returns-in_err-read_cells-clause-made : goal.returns-in_err-read_cells-clause-made
returns-in_err-read_cells-clause-made g c =
    let cs = g.A.ExecutionArgs.inputs c.args.args.now in
    let fault = IsCallFault (λ ts. replace_of) cs (g.A.ExecutionArgs.rows c.args.args.now) in
    let made = c.from_residual-in_err-read_cells in
    let e = c.in_err-read_cells.field-0.0 in
    passed_on made.result _ fault e made.ensures.0 made.ensures.1
    (memory_alone fault e c.in_err-read_cells.ensures)

pub returns-in_err-text-clause-made : goal.returns-in_err-text-clause-made
returns-in_err-text-clause-made g c =
    let cs = g.A.ExecutionArgs.inputs c.args.args.now in
    let n = g.A.ExecutionArgs.rows c.args.args.now in
    let same =
    sym c.in_ok-read_cells.ensures.values ∙ ap (map cell_value) (sym c.deref.ensures.value) in
    let i = c.loop-i.i in
    let lt : i < n = omega (arith, c.loop-i-test.true, c.row_count-i-end.ensures) in
    let row = replace_of (map cell_value c.deref.result.now) in
    let made = c.from_residual-in_err-text in
    let e = c.in_err-text.field-0.0 in
    passed_on made.result _ (IsCallFault (λ ts. replace_of) cs n) e made.ensures.0 made.ensures.1
    (refused_row cs n i e lt row (ap replace_of same)
    (subst (MakesRow row) c.in_err-text.was c.in-Some-replaced_next.ensures.value))

pub loop-i-preserved : goal.loop-i-preserved
loop-i-preserved g c =
    let cs = g.A.ExecutionArgs.inputs c.args.args.now in
    let row = replace_of (map cell_value c.deref.result.now) in
    let same =
    sym c.in_ok-read_cells.ensures.values ∙ ap (map cell_value) (sym c.deref.ensures.value) in
    record {
      compiled =
          subst (IsPatternOf (in_case c.in-Some.flags.1 c.args.first.now.pattern.now))
          (sym c.replaced_next.ensures.same) c.loop-i.invariant.compiled;
      more = omega (arith, c.loop-i.invariant.more);
      made = pushed text_or_null None replace_of cs c.loop-i.i c.loop-i.rows.items
          c.push-in-loop-i.new.self.items c.in_ok-text.text c.loop-i.invariant.made
          c.in_ok-push-2.ensures.items
          (ap replace_of same
          ∙ subst (MakesRow row) c.in_ok-text.was c.in-Some-replaced_next.ensures.value);
    }
