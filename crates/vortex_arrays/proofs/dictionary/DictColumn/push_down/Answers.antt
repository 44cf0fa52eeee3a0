use Rattle.std.proofs.Common.{◌∙◌, ap, map, length}
use Rattle.std.specs.Cow.{cow_value}
use Rattle.std.proofs.lemmas.Result.{err_from_is_err_and}
use Rattle.vortex_columns.specs.ColumnView.{ColumnView}
use Rattle.vortex_functions.specs.FunctionOf.{function_of}
use Rattle.vortex_arrays.proofs.CallInputs.{args_length}
use Rattle.vortex_arrays.proofs.PushedDown.{inputs_are, faulted, pushed}
use Rattle.vortex_arrays.proofs.dictionary.DictColumn.push_down.Goals as goal

pub new-args-requires : goal.new-args-requires
new-args-requires g c =
    args_length c.args.child_idx c.values-values.result.now c.args.others.now c.len.result _
    c.in_ok-inputs.ensures c.len.ensures

pub returns-in_err-answers : goal.returns-in_err-answers
returns-in_err-answers g c =
    let d = c.args.self.now in
    let is =
    inputs_are c.args.child_idx c.values-values.result.now d c.args.others.now _
    c.in_ok-inputs.ensures c.values-values.ensures in
    let long =
    c.new-args.ensures.row_count ∙ c.len.ensures
    ∙ ap (λ (v : ColumnView). length v.rows) c.values-values.ensures in
    let p =
    err_from_is_err_and c.from_residual-in_err-answers.result
    c.from_residual-in_err-answers.ensures.1 in
    rw (p.1, p.2)
    (faulted g.C.ScalarFnVTable.meaning (function_of c.args.function.now) d _ _ is _
    (ap (map cow_value) c.deref.ensures.value) _ c.new-args.ensures.columns _ long
    c.in_ok-check_inputs.ensures (c.in_ok-may_run_over.ensures.0 c.if-not-branch.false) _
    c.in_err-answers.ensures)

pub returns : goal.returns
returns g c =
    let d = c.args.self.now in
    let is =
    inputs_are c.args.child_idx c.values-values.result.now d c.args.others.now _
    c.in_ok-inputs.ensures c.values-values.ensures in
    let long =
    c.new-args.ensures.row_count ∙ c.len.ensures
    ∙ ap (λ (v : ColumnView). length v.rows) c.values-values.ensures in
    pushed g.C.ScalarFnVTable.meaning (function_of c.args.function.now) d _ _ is _
    (ap (map cow_value) c.deref.ensures.value) _ c.new-args.ensures.columns _ long
    c.in_ok-check_inputs.ensures (c.in_ok-may_run_over.ensures.0 c.if-not-branch.false)
    c.in_ok-answers.answers _ c.in_ok-answers.ensures c.in_ok-with_values.ensures
