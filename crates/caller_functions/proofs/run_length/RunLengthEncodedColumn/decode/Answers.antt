use Rattle.std.proofs.Common.{subst}
use Rattle.vortex_errors.specs.Answers.{AnswersUnlessMemory}
use Rattle.vortex_errors.proofs.Answering.{AnswersUnlessMemory-weaker}
use Rattle.vortex_columns.specs.ColumnView.{ColumnView}
use Rattle.vortex_arrays.specs.Encoded.{IsDecoded}
use Rattle.caller_functions.specs.RunLength.{HasRunRows, run_column}
use Rattle.caller_functions.proofs.RunRows.{runs_decoded}
use Rattle.caller_functions.proofs.run_length.RunLengthEncodedColumn.decode.Goals as goal

pub returns : goal.returns
returns c =
    let a = c.args.self.now in
    let v = c.deref.result.now in
    let n = a.len in
    let starts = a.starts.items in
    subst (λ (x : ColumnView). AnswersUnlessMemory c.bool_runs.result
    (IsDecoded (run_column x starts n)))
    c.deref.ensures
    (AnswersUnlessMemory-weaker c.bool_runs.result (HasRunRows v starts n)
    (IsDecoded (run_column v starts n)) (runs_decoded v starts n)
    (rw c.as_slice.ensures.value at c.bool_runs.ensures))
