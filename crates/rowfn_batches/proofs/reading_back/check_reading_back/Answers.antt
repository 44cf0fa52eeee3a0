use Rattle.std.proofs.Common.{inl, sym, ◌∙◌}
use Rattle.std.proofs.lemmas.Result.{err_from_is_err_and}
use Rattle.rowfn_batches.proofs.ReadingBack.{read_back, kept_appended}
use Rattle.rowfn_batches.proofs.reading_back.check_reading_back.Goals as goal

pub returns-then-settings : goal.returns-then-settings
returns-then-settings c = λ e. absurd (cc (sym c.if-settings.true ∙ e))

pub returns-in_err-check_names : goal.returns-in_err-check_names
returns-in_err-check_names c =
    let p = err_from_is_err_and c.from_residual.result c.from_residual.ensures.1 in
    let written = c.if-settings.false in
    rw (p.1, p.2) (written, inl c.in_err-check_names.ensures)

pub returns-then-settings-2 : goal.returns-then-settings-2
returns-then-settings-2 c = λ _.
    kept_appended c.args.settings.now c.args.program.now.written.items c.if-settings.false
    c.in_ok-check_names.ensures c.if-settings-2.true

pub returns : goal.returns
returns c =
    read_back c.args.settings.now c.args.program.now.written.items c.if-settings.false
    c.in_ok-check_names.ensures c.deref.result.now c.check_rows.result c.deref.ensures.value
    c.check_rows.ensures
