use Rattle.std.proofs.Common.{◌≡◌, ◌∙◌, arith, length, map}
use Rattle.std.proofs.lemmas.List.{length-map}
use Rattle.vortex_interface.specs.Functions.{function_type, function_means}
use Rattle.vortex_interface.specs.Outcomes.{HasCallRows}
use Rattle.vortex_interface.specs.Shipped.NullTestFunctions.{null_test_value}
use Rattle.vortex_functions.specs.FunctionOf.{function_of}
use Rattle.vortex_standard.specs.Standard.{standard_meaning}
use Rattle.vortex_kernels.specs.NullTests.{HasTests}
use Rattle.yurkije_lent.specs.Operands.{operand_column}
use Rattle.yurkije_lent.proofs.CallRows.{get_at, mapped_at, counted_at, tested}
use Rattle.yurkije_lent.proofs.Optional.{some_weaker}
use Rattle.yurkije_lent.proofs.calls.call_null_test.Goals as goal

pub returns : goal.returns
returns c =
    let f = function_of c.args.function.now in
    let negated = c.args.negated in
    let xs = c.args.inputs.now in
    let ds = map operand_column xs in
    let n = c.args.rows in
    let x = c.index-inputs-0.result in
    let one = c.if-inputs-ne1.false in
    let count : length ds ≡ 1 = length-map xs operand_column ∙ one in
    let first = mapped_at operand_column xs 0 x (get_at xs 0 x (omega (arith, one)) c.index-inputs-0.is) in
    some_weaker c.test_nulls.result (HasTests (null_test_value negated) (operand_column x))
    (HasCallRows (function_type standard_meaning f) (function_means standard_meaning f) ds n)
    (λ d h.
    tested standard_meaning f negated ds (operand_column x) d n c.requires.call count first
    (counted_at n ds 0 (operand_column x) c.requires.lengths first) h)
    c.test_nulls.ensures
