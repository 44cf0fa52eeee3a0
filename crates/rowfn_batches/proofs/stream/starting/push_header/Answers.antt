use Rattle.std.proofs.lemmas.Result.{err_from_is_err_and}
use Rattle.rowfn_batches.specs.Starts.{taken}
use Rattle.rowfn_batches.proofs.Starting.{pushes_none, pushes_picked, pushes_names}
use Rattle.rowfn_batches.proofs.stream.starting.push_header.Goals as goal

pub returns-then-not-settings : goal.returns-then-not-settings
returns-then-not-settings g c =
    pushes_none c.args.settings.now c.args.is_there c.args.records.now c.args.answers.now
    c.args.output.now c.if-not-settings.true

pub returns-then-settings : goal.returns-then-settings
returns-then-settings g c =
    pushes_picked c.args.settings.now c.args.is_there c.args.records.now c.args.answers.now
    c.args.output.now c.push_line.new.output c.if-not-settings.false c.if-settings.true
    c.in_ok-push_line.ensures

pub returns-in_err-check_beside : goal.returns-in_err-check_beside
returns-in_err-check_beside g c =
    let p = err_from_is_err_and c.from_residual-in_err-check_beside.result
    c.from_residual-in_err-check_beside.ensures.1 in
    let h = c.in_err-check_beside.ensures in
    rw (p.1, p.2) (taken c.if-not-settings.false c.if-settings.false h.0 h.1)

pub returns : goal.returns
returns g c =
    pushes_names c.args.settings.now c.args.is_there c.args.records.now c.args.answers.now
    c.args.output.now c.push_own_names.new.output c.push_names.new.self c.if-not-settings.false
    c.if-settings.false c.in_ok-check_beside.ensures c.in_ok-push_own_names.ensures
    c.in_ok-push_names.ensures
