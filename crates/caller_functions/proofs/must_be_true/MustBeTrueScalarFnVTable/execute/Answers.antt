use Rattle.std.proofs.Common.{◌<◌, sym, ap, ◌∙◌, arith, refl, Some}
use Rattle.std.proofs.lemmas.Bool.{eqb-true}
use Rattle.vortex_types.specs.ScalarView.{ScalarView}
use Rattle.vortex_types.specs.Values.{truth_of}
use Rattle.vortex_interface.specs.Outcomes.{custom}
use Rattle.vortex_shipped.proofs.NotCalls.{OneBool, one_bool}
use Rattle.caller_functions.proofs.Faults.{fault_here, copy_answers}
use Rattle.caller_functions.proofs.must_be_true.MustBeTrueScalarFnVTable.execute.Goals as goal

pub returns-in-Some-false : goal.returns-in-Some-false
returns-in-Some-false g c =
    let cs = g.A.ExecutionArgs.inputs c.args.args.now in
    let one : OneBool cs c.in_ok-input.input.now =
    one_bool cs c.in_ok-input.input.now (eqb-true _ _ c.requires.arity) c.requires.accepted
    c.in_ok-input.ensures.input in
    let below : c.loop-i.i < g.A.ExecutionArgs.rows c.args.args.now =
    omega (arith, c.len-i-end.ensures, c.in_ok-input.ensures.count) in
    record {
      at = c.loop-i.i;
      below = below;
      fault = custom 1;
      here =
          fault_here cs c.in_ok-input.input.now (g.A.ExecutionArgs.rows c.args.args.now) c.loop-i.i
          one below
          (ap (λ (s : ScalarView). truth_of s.value) (sym c.in_ok-scalar.ensures)
          ∙ sym c.as_bool_opt.ensures
          ∙ c.in-Some-false.is
          ∙ ap Some c.in-Some-false.field-0-test);
      told = refl;
    }

pub returns : goal.returns
returns g c =
    let cs = g.A.ExecutionArgs.inputs c.args.args.now in
    let one : OneBool cs c.in_ok-input.input.now =
    one_bool cs c.in_ok-input.input.now (eqb-true _ _ c.requires.arity) c.requires.accepted
    c.in_ok-input.ensures.input in
    copy_answers cs c.in_ok-input.input.now (g.A.ExecutionArgs.rows c.args.args.now)
    c.try_clone.result one c.dtype-typed.ensures.typed c.in_ok-input.ensures.count
    (λ k h. c.loop-i.invariant k (omega (arith, c.len-i-end.ensures, c.in_ok-input.ensures.count)))
    c.try_clone.ensures
