use Rattle.std.proofs.Common.{refl, option_map}
use Rattle.std.proofs.lemmas.Result.{err_from_is_err_and}
use Rattle.rowfn_batches.specs.Starts.{not_read_back, at_header, at_column, at_name, at_condition}
use Rattle.rowfn_batches.proofs.Headed.{headed}
use Rattle.rowfn_batches.proofs.Starting.{fresh, has_read}
use Rattle.rowfn_batches.proofs.stream.Stream.start.Goals as goal

pub returns-in_err-check_reading_back-clause-starts : goal.returns-in_err-check_reading_back-clause-starts
returns-in_err-check_reading_back-clause-starts g c =
    let p = err_from_is_err_and c.from_residual.result c.from_residual.ensures.1 in
    let h = c.in_err-check_reading_back.ensures in
    rw (p.1, p.2) (not_read_back h.0 h.1)

pub returns-in_err-is_there-clause-starts : goal.returns-in_err-is_there-clause-starts
returns-in_err-is_there-clause-starts g c =
    let p = err_from_is_err_and c.from_residual-in_err-is_there.result
    c.from_residual-in_err-is_there.ensures.1 in
    let new = c.new-records.ensures in
    rw (p.1, p.2)
    (at_header c.new-records.result c.read_header.new.records
    (fresh c.args.reader c.args.settings.now c.new-records.result new.format new.reader
    new.none_read)
    c.in_err-is_there.ensures)

pub returns-in_err-layout-clause-starts : goal.returns-in_err-layout-clause-starts
returns-in_err-layout-clause-starts g c =
    let p = err_from_is_err_and c.from_residual-in_err-layout.result
    c.from_residual-in_err-layout.ensures.1 in
    let new = c.new-records.ensures in
    let unread = fresh c.args.reader c.args.settings.now c.new-records.result new.format new.reader
    new.none_read in
    rw (p.1, p.2)
    (at_column c.in_ok-is_there.is_there c.read_header.new.records
    (has_read c.args.reader c.args.settings.now c.new-records.result c.in_ok-is_there.is_there
    c.read_header.new.records unread c.in_ok-is_there.ensures)
    (rw c.record.ensures at c.in_err-layout.ensures.layout))

pub returns-in_err-push_header-clause-starts : goal.returns-in_err-push_header-clause-starts
returns-in_err-push_header-clause-starts g c =
    let p = err_from_is_err_and c.from_residual-in_err-push_header.result
    c.from_residual-in_err-push_header.ensures.1 in
    let new = c.new-records.ensures in
    let unread = fresh c.args.reader c.args.settings.now c.new-records.result new.format new.reader
    new.none_read in
    rw (p.1, p.2)
    (at_name c.in_ok-is_there.is_there c.read_header.new.records c.in_ok-layout.layout
    (has_read c.args.reader c.args.settings.now c.new-records.result c.in_ok-is_there.is_there
    c.read_header.new.records unread c.in_ok-is_there.ensures)
    (rw c.record.ensures at c.in_ok-layout.ensures.layout)
    (rw c.deref.ensures.value at c.in_err-push_header.ensures))

pub returns-in_err-condition-clause-starts : goal.returns-in_err-condition-clause-starts
returns-in_err-condition-clause-starts g c =
    let p = err_from_is_err_and c.from_residual-in_err-condition.result
    c.from_residual-in_err-condition.ensures.1 in
    let new = c.new-records.ensures in
    let unread = fresh c.args.reader c.args.settings.now c.new-records.result new.format new.reader
    new.none_read in
    let pushed = rw c.deref.ensures.value at c.in_ok-push_header.ensures in
    rw (p.1, p.2)
    (at_condition c.in_ok-is_there.is_there c.read_header.new.records
    c.in_ok-layout.layout
    (has_read c.args.reader c.args.settings.now c.new-records.result c.in_ok-is_there.is_there
    c.read_header.new.records unread c.in_ok-is_there.ensures)
    (rw c.record.ensures at c.in_ok-layout.ensures.layout) pushed.apart
    (rw c.record-2.ensures at c.in_err-condition.ensures))

pub returns-clause-starts : goal.returns-clause-starts
returns-clause-starts g c =
    let new = c.new-records.ensures in
    let unread = fresh c.args.reader c.args.settings.now c.new-records.result new.format new.reader
    new.none_read in
    headed c.args.reader c.args.settings.now c.args.asked.now
    (option_map (λ x. x.now) c.args.condition) _ c.in_ok-is_there.is_there c.new-output.result
    (has_read c.args.reader c.args.settings.now c.new-records.result c.in_ok-is_there.is_there
    c.read_header.new.records unread c.in_ok-is_there.ensures)
    refl refl (rw c.record.ensures at c.in_ok-layout.ensures.layout) refl
    (rw c.record-2.ensures at c.in_ok-condition.ensures)
    (rw c.deref.ensures.value at c.in_ok-push_header.ensures) c.new-output.ensures refl
