use Rattle.std.proofs.Common.{◌≡◌, ◌∙◌, arith, length, map}
use Rattle.std.proofs.lemmas.List.{length-map}
use Rattle.vortex_interface.specs.Functions.{function_type, function_means}
use Rattle.vortex_interface.specs.Outcomes.{HasCallRows}
use Rattle.vortex_functions.specs.FunctionOf.{function_of}
use Rattle.vortex_standard.specs.Standard.{standard_meaning}
use Rattle.vortex_kernels.specs.Between.{HasBetweenRows}
use Rattle.yurkije_lent.specs.Operands.{operand_column}
use Rattle.yurkije_lent.proofs.CallRows.{get_at, mapped_at, counted_at, bounded}
use Rattle.yurkije_lent.proofs.Leaves.{some_weaker}
use Rattle.yurkije_lent.proofs.calls.call_between.Goals as goal

pub returns : goal.returns
returns c =
    let f = function_of c.args.function.now in
    let xs = c.args.inputs.now in
    let ds = map operand_column xs in
    let n = c.args.rows in
    let options = c.args.options.now in
    let x = c.index-inputs-0.result in
    let y = c.index-inputs-1.result in
    let z = c.index-inputs-2.result in
    let three = c.if-inputs-ne3.false in
    let count : length ds ≡ 3 = length-map xs operand_column ∙ three in
    let first = mapped_at operand_column xs 0 x (get_at xs 0 x (omega (arith, three)) c.index-inputs-0.is) in
    let second = mapped_at operand_column xs 1 y (get_at xs 1 y (omega (arith, three)) c.index-inputs-1.is) in
    let third = mapped_at operand_column xs 2 z (get_at xs 2 z (omega (arith, three)) c.index-inputs-2.is) in
    some_weaker c.between_operands.result
    (HasBetweenRows options (operand_column x) (operand_column y) (operand_column z))
    (HasCallRows (function_type standard_meaning f) (function_means standard_meaning f) ds n)
    (λ d h.
    bounded standard_meaning f options ds (operand_column x) (operand_column y) (operand_column z) d n
    c.requires.call count c.requires.accepted first second third
    (counted_at n ds 0 (operand_column x) c.requires.lengths first) h)
    c.between_operands.ensures
