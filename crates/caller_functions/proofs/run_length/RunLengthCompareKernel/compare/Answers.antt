use Rattle.caller_functions.proofs.RunRows.{comparison_of_runs}
use Rattle.caller_functions.proofs.run_length.RunLengthCompareKernel.compare.Goals as goal

pub returns-in_ok-bool_runs-in-Some : goal.returns-in_ok-bool_runs-in-Some
returns-in_ok-bool_runs-in-Some c =
    let a = c.args.self.now in
    let answer = c.in_ok-bool_runs-in-Some in (
      c.in-Some.ensures.0,
      comparison_of_runs c.args.operator a.values.value c.deref.result.now c.args.rhs.now
          c.in_ok-runs-in-Some.runs.value c.deref-in-Some.result.now
          answer.field-0 c.in-Some.scalar.now a.starts.items a.len c.deref.ensures
          c.deref-in-Some.ensures a.within c.in-Some.ensures.1
          c.requires.lengths c.requires.alike c.in_ok-runs-in-Some.ensures
          (rw c.as_slice-starts.ensures.value at answer.ensures),
    )
