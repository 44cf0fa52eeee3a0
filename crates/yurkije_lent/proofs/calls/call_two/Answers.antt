use Rattle.std.proofs.Common.{◌≡◌, ◌∙◌, arith, length, map, subst}
use Rattle.std.proofs.lemmas.List.{length-map}
use Rattle.vortex_interface.specs.Functions.{function_type, function_means}
use Rattle.vortex_interface.specs.Outcomes.{HasCallRows}
use Rattle.vortex_functions.specs.FunctionOf.{function_of}
use Rattle.vortex_standard.specs.Standard.{standard_meaning}
use Rattle.vortex_kernels.specs.Comparison.{HasComparisonRows}
use Rattle.vortex_kernels.specs.Numeric.{AnswersNumeric}
use Rattle.vortex_sql_float_columns.specs.KeyedRows.{HasFloatRows}
use Rattle.yurkije_lent.specs.declared.calls.DirectCall.{DirectCall}
use Rattle.yurkije_lent.specs.Calls.{IsDirectCall}
use Rattle.yurkije_lent.specs.Operands.{operand_column}
use Rattle.yurkije_lent.proofs.CallRows.{get_at, mapped_at, counted_at, compared, calculated, floated}
use Rattle.yurkije_lent.proofs.CallRows.{integers_there}
use Rattle.yurkije_lent.proofs.Leaves.{some_weaker}
use Rattle.yurkije_lent.proofs.calls.call_two.Goals as goal

pub calculate_operands-requires-clause-types : goal.calculate_operands-requires-clause-types
calculate_operands-requires-clause-types c =
    let f = function_of c.args.function.now in
    let op = c.in-Arithmetic.operator in
    let xs = c.args.inputs.now in
    let ds = map operand_column xs in
    let x = c.index-inputs-0-in-Arithmetic.result in
    let y = c.index-inputs-1-in-Arithmetic.result in
    let is = subst (λ (k : DirectCall). IsDirectCall k f) c.in-Arithmetic.is c.requires.call in
    let count : length ds ≡ 2 = length-map xs operand_column ∙ c.if-inputs-ne2.false in
    let left = mapped_at operand_column xs 0 x
    (get_at xs 0 x (omega (arith, c.if-inputs-ne2.false)) c.index-inputs-0-in-Arithmetic.is) in
    let right = mapped_at operand_column xs 1 y
    (get_at xs 1 y (omega (arith, c.if-inputs-ne2.false)) c.index-inputs-1-in-Arithmetic.is) in
    integers_there standard_meaning f op ds (operand_column x) (operand_column y) (operand_column x)
    c.args.rows is count c.requires.accepted left right

pub returns-in-Comparison : goal.returns-in-Comparison
returns-in-Comparison c =
    let f = function_of c.args.function.now in
    let op = c.in-Comparison.operator in
    let xs = c.args.inputs.now in
    let ds = map operand_column xs in
    let n = c.args.rows in
    let x = c.index-inputs-0.result in
    let y = c.index-inputs-1.result in
    let is = subst (λ (k : DirectCall). IsDirectCall k f) c.in-Comparison.is c.requires.call in
    let count : length ds ≡ 2 = length-map xs operand_column ∙ c.if-inputs-ne2.false in
    let left = mapped_at operand_column xs 0 x (get_at xs 0 x (omega (arith, c.if-inputs-ne2.false)) c.index-inputs-0.is) in
    let right = mapped_at operand_column xs 1 y (get_at xs 1 y (omega (arith, c.if-inputs-ne2.false)) c.index-inputs-1.is) in
    some_weaker c.compare_operands.result (HasComparisonRows op (operand_column x) (operand_column y))
    (HasCallRows (function_type standard_meaning f) (function_means standard_meaning f) ds n)
    (λ d h.
    compared standard_meaning f op ds (operand_column x) (operand_column y) d n is count c.requires.accepted left
    right (counted_at n ds 0 (operand_column x) c.requires.lengths left)
    (counted_at n ds 1 (operand_column y) c.requires.lengths right) h)
    c.compare_operands.ensures

pub returns-in-Arithmetic : goal.returns-in-Arithmetic
returns-in-Arithmetic c =
    let f = function_of c.args.function.now in
    let op = c.in-Arithmetic.operator in
    let xs = c.args.inputs.now in
    let ds = map operand_column xs in
    let n = c.args.rows in
    let x = c.index-inputs-0-in-Arithmetic.result in
    let y = c.index-inputs-1-in-Arithmetic.result in
    let is = subst (λ (k : DirectCall). IsDirectCall k f) c.in-Arithmetic.is c.requires.call in
    let count : length ds ≡ 2 = length-map xs operand_column ∙ c.if-inputs-ne2.false in
    let left = mapped_at operand_column xs 0 x (get_at xs 0 x (omega (arith, c.if-inputs-ne2.false)) c.index-inputs-0-in-Arithmetic.is) in
    let right = mapped_at operand_column xs 1 y (get_at xs 1 y (omega (arith, c.if-inputs-ne2.false)) c.index-inputs-1-in-Arithmetic.is) in
    some_weaker c.calculate_operands.result (AnswersNumeric op (operand_column x) (operand_column y))
    (HasCallRows (function_type standard_meaning f) (function_means standard_meaning f) ds n)
    (λ d h.
    calculated standard_meaning f op ds (operand_column x) (operand_column y) d n is count c.requires.accepted left
    right (counted_at n ds 0 (operand_column x) c.requires.lengths left)
    (counted_at n ds 1 (operand_column y) c.requires.lengths right) h)
    c.calculate_operands.ensures

pub returns-in-FloatArithmetic : goal.returns-in-FloatArithmetic
returns-in-FloatArithmetic c =
    let f = function_of c.args.function.now in
    let op = c.in-FloatArithmetic.operator in
    let xs = c.args.inputs.now in
    let ds = map operand_column xs in
    let n = c.args.rows in
    let x = c.index-inputs-0-in-FloatArithmetic.result in
    let y = c.index-inputs-1-in-FloatArithmetic.result in
    let is = subst (λ (k : DirectCall). IsDirectCall k f) c.in-FloatArithmetic.is c.requires.call in
    let count : length ds ≡ 2 = length-map xs operand_column ∙ c.if-inputs-ne2.false in
    let left = mapped_at operand_column xs 0 x (get_at xs 0 x (omega (arith, c.if-inputs-ne2.false)) c.index-inputs-0-in-FloatArithmetic.is) in
    let right = mapped_at operand_column xs 1 y (get_at xs 1 y (omega (arith, c.if-inputs-ne2.false)) c.index-inputs-1-in-FloatArithmetic.is) in
    some_weaker c.calculate_floats.result (HasFloatRows op (operand_column x) (operand_column y))
    (HasCallRows (function_type standard_meaning f) (function_means standard_meaning f) ds n)
    (λ d h.
    floated f op ds (operand_column x) (operand_column y) d n is count c.requires.accepted left
    right (counted_at n ds 0 (operand_column x) c.requires.lengths left) h)
    c.calculate_floats.ensures
