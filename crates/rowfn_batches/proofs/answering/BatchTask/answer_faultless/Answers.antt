use Rattle.std.proofs.Common.{map}
use Rattle.rowfn_batches.specs.Fields.{field_in}
use Rattle.rowfn_batches.specs.BatchAnswers.{number_of}
use Rattle.rowfn_batches.proofs.Within.{within_shown, stopped_here}
use Rattle.rowfn_batches.proofs.answering.BatchTask.answer_faultless.Goals as goal

pub turns-preserved : goal.turns-preserved
turns-preserved c =
    let x = c.args.self.now.asked in
    let fs = map field_in c.args.fields.now in
    let number = number_of c.args.self.now in
    stopped_here x fs number c.args.row_count c.args.error c.turns.count c.in-NoText.row
    c.in-NoText.error
    (within_shown x fs number c.args.row_count c.args.error c.turns.count c.turns.behind
    c.turns.invariant)
    (rw c.in-NoText.is at c.in_ok-answers.ensures)
