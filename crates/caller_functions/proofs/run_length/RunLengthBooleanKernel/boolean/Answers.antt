use Rattle.std.proofs.Common.{◌≡◌, true, sym, ◌∙◌}
use Rattle.std.specs.Prelude.{◌&&◌}
use Rattle.vortex_operators.specs.Operators.{is_boolean}
use Rattle.caller_functions.proofs.RunRows.{boolean_of_runs}
use Rattle.caller_functions.proofs.run_length.RunLengthBooleanKernel.boolean.Goals as goal

pub returns-in_ok-bool_runs-in-Some : goal.returns-in_ok-bool_runs-in-Some
returns-in_ok-bool_runs-in-Some c =
    let a = c.args.self.now in
    let op = c.args.operator in
    let is : is_boolean op ≡ true = sym c.is_boolean.ensures ∙ cc in
    let answer = c.in_ok-bool_runs-in-Some in (
      (λ i. is i && c.in-Some.ensures.0 i),
      boolean_of_runs op a.values.value c.deref.result.now c.args.rhs.now
          c.in_ok-runs-in-Some.runs.value c.deref-in-Some.result.now answer.field-0
          c.in-Some.scalar.now a.starts.items a.len c.deref.ensures c.deref-in-Some.ensures a.within
          c.in-Some.ensures.1 c.requires.lengths is
          (c.requires.bools is) c.in_ok-runs-in-Some.ensures
          (rw c.as_slice-starts.ensures.value at answer.ensures),
    )
