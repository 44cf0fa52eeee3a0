use Rattle.std.proofs.Common.{Ok, Err, refl}
use Rattle.std.proofs.lemmas.Result.{err_from_is_err_and}
use Rattle.csv.specs.Records.{fields_of}
use Rattle.rowfn_batches.proofs.Starting.{laid_out, refuses_by_memory, further}
use Rattle.rowfn_batches.proofs.stream.starting.layout_of.Goals as goal

pub returns-in_err-layout-clause-further : goal.returns-in_err-layout-clause-further
returns-in_err-layout-clause-further c =
    let p = err_from_is_err_and c.from_residual.result c.from_residual.ensures.1 in
    rw (p.1, p.2)
    (further c.args.settings.now (fields_of c.args.header.now) c.args.asked.now (Err _)
    c.in_err-layout.ensures)

pub returns-in_err-with_spelling-clause-layout : goal.returns-in_err-with_spelling-clause-layout
returns-in_err-with_spelling-clause-layout c =
    let p = err_from_is_err_and c.from_residual-in_err-with_spelling.result
    c.from_residual-in_err-with_spelling.ensures.1 in
    rw (p.1, p.2)
    (refuses_by_memory c.args.settings.now (fields_of c.args.header.now) c.args.asked.now)

pub returns-in_err-with_spelling-clause-further : goal.returns-in_err-with_spelling-clause-further
returns-in_err-with_spelling-clause-further c =
    let p = err_from_is_err_and c.from_residual-in_err-with_spelling.result
    c.from_residual-in_err-with_spelling.ensures.1 in
    rw (p.1, p.2) (λ places header at. refl)

pub returns-clause-layout : goal.returns-clause-layout
returns-clause-layout c =
    laid_out c.args.settings.now (fields_of c.args.header.now) c.args.asked.now
    c.in_ok-layout.layout c.in_ok-with_spelling.field-0 c.in_ok-layout.ensures
    c.in_ok-with_spelling.ensures

pub returns-clause-further : goal.returns-clause-further
returns-clause-further c =
    further c.args.settings.now (fields_of c.args.header.now) c.args.asked.now
    (Ok c.in_ok-with_spelling.field-0)
    (laid_out c.args.settings.now (fields_of c.args.header.now) c.args.asked.now
    c.in_ok-layout.layout c.in_ok-with_spelling.field-0 c.in_ok-layout.ensures
    c.in_ok-with_spelling.ensures)
