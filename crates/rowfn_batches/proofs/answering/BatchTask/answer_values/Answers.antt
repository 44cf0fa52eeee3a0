use Rattle.std.proofs.Common.{map, arith}
use Rattle.rowfn_batches.specs.Fields.{field_in}
use Rattle.rowfn_batches.specs.BatchAnswers.{number_of}
use Rattle.rowfn_batches.proofs.FirstRows.{if_ok-weaker}
use Rattle.rowfn_batches.proofs.Within.{stopped_before}
use Rattle.rowfn_batches.proofs.answering.BatchTask.answer_values.Goals as goal

pub returns-in-NoText-clause-ends : goal.returns-in-NoText-clause-ends
returns-in-NoText-clause-ends c =
    let x = c.args.self.now.asked in
    let fs = map field_in c.args.fields.now in
    if_ok-weaker c.answer_faultless.result _ _
    (λ a h. stopped_before x fs (number_of c.args.self.now) c.args.row_count c.args.error
    c.args.row_count c.in-NoText.row c.in-NoText.error (omega arith)
    (rw c.in-NoText.is at c.in_ok-answers.ensures) a.row_count a.error h)
    c.answer_faultless.ensures.ends
