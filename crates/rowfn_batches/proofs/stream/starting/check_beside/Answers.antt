use Rattle.rowfn_batches.proofs.Starting.{beside}
use Rattle.rowfn_batches.proofs.stream.starting.check_beside.Goals as goal

pub returns : goal.returns
returns g c =
    beside c.args.settings.now c.args.answers.now c.args.records.now.last c.check_taken.result
    c.if-not-settings.false (rw c.record.ensures at c.check_taken.ensures)
