use Rattle.std.proofs.lemmas.Result.{err_from_is_err_and}
use Rattle.csv.specs.Records.{fields_of}
use Rattle.rowfn_batches.proofs.Starting.{named, declared, refuses_by_memory}
use Rattle.rowfn_batches.proofs.stream.starting.columns_of.Goals as goal

pub returns-then-settings : goal.returns-then-settings
returns-then-settings c =
    let told = c.named_layout.ensures in
    named c.args.settings.now (fields_of c.args.header.now) c.args.asked.now c.if-settings.true
    c.named_layout.result told.places told.width told.refused

pub returns-in_err-declared_layout : goal.returns-in_err-declared_layout
returns-in_err-declared_layout c =
    let p = err_from_is_err_and c.from_residual.result c.from_residual.ensures.1 in
    rw (p.1, p.2)
    (refuses_by_memory c.args.settings.now (fields_of c.args.header.now) c.args.asked.now)

pub returns : goal.returns
returns c =
    let told = c.in_ok-declared_layout.ensures in
    declared c.args.settings.now (fields_of c.args.header.now) c.args.asked.now
    c.if-settings.false c.in_ok-declared_layout.field-0
    (record { places = told.places; width = told.width })
