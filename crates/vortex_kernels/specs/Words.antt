-- The words that contracts use, from one module.
pub use Rattle.vortex_bits.specs.Bits.{bit}
pub use Rattle.vortex_bits.specs.Forms.{shifted_there, shifted_bit}
pub use Rattle.vortex_bits.specs.Rows.{AreRows}
pub use Rattle.vortex_columns.specs.ColumnView.{row, IsIntegerType, AreInts}
pub use Rattle.vortex_views.specs.BorrowedValues.{borrowed_values}
pub use Rattle.vortex_views.specs.BorrowedValue.{constant_value}
pub use Rattle.vortex_kernels.specs.ArithmeticIntegers.{FitsResult, AnswersExact}
pub use Rattle.vortex_kernels.specs.Between.{HasBetweenRows, AreBeside, AreBounded, HasNoNull}
pub use Rattle.vortex_kernels.specs.Between.{any_nullable, between_scalar}
pub use Rattle.vortex_kernels.specs.Boolean.{are_bools, HasBooleanRows, HasNotRows}
pub use Rattle.vortex_kernels.specs.Boolean.{IsKleeneValidity, AnswersBoolean, RefusesBoolean}
pub use Rattle.vortex_kernels.specs.Cast.{HasCastRows}
pub use Rattle.vortex_kernels.specs.Comparison.{is_null_constant, IsConstantOf, AnswersScalars}
pub use Rattle.vortex_kernels.specs.Comparison.{RefusesScalars, HasComparisonRows, AnswersCompare}
pub use Rattle.vortex_kernels.specs.Comparison.{RefusesCompare, AreHeld, IsConstantBytes}
pub use Rattle.vortex_kernels.specs.Comparison.{AreComparisons}
pub use Rattle.vortex_kernels.specs.Constants.{KeepsConstant, KeepsTwoConstants}
pub use Rattle.vortex_kernels.specs.Constants.{KeepsThreeConstants}
pub use Rattle.vortex_kernels.specs.NullTests.{HasTruths, HasNullTests, HasNotNullTests}
pub use Rattle.vortex_kernels.specs.NullTests.{IsConstantUnlessListed}
pub use Rattle.vortex_kernels.specs.Numeric.{AnswersNumeric, RefusesNumeric}
pub use Rattle.vortex_kernels.specs.Numeric.{IsExactOf, row_results, results_by}
pub use Rattle.vortex_kernels.specs.Numeric.{AreNumbers}
pub use Rattle.vortex_kernels.specs.Numeric.{AreResults, TellsFaults, FitWhereValid, FaultsAt}
pub use Rattle.vortex_kernels.specs.Numeric.{IsNullColumn, null_of}
pub use Rattle.vortex_kernels.specs.PairOrders.{byte_order, row_orders, int_orders, int_orders_with}
pub use Rattle.vortex_kernels.specs.PairOrders.{bit_orders, bit_orders_with, byte_orders}
pub use Rattle.vortex_kernels.specs.PairOrders.{byte_orders_with}
pub use Rattle.vortex_kernels.specs.Ranges.{LiesIn, AreListed, part_order, list_orders}
pub use Rattle.vortex_kernels.specs.Records.{HoldByLast, AreValidityWords, presence_there}
pub use Rattle.vortex_kernels.specs.Records.{presence_bit, IsRecordType}
pub use Rattle.vortex_kernels.specs.Rows.{HasScalarRows}
pub use Rattle.vortex_kernels.specs.Kleene.{HasKleeneRows, value_word, HaveTruths, AnswersKleene}
pub use Rattle.vortex_kernels.specs.Kleene.{RefusesOperator, HasTruthRows}
pub use Rattle.vortex_kernels.specs.Truths.{present, IsValueOf, truth_at, AreTruthRows}
pub use Rattle.vortex_kernels.specs.Truths.{rows_truth, FitsOperand, operand_truth, IsOperandOf}
pub use Rattle.vortex_columns.specs.ValidRows.{valid_view, AreValid, IsValidity, IsValidityOf}
pub use Rattle.vortex_columns.specs.ValidRows.{IsJointValidity, IsAsValid, IsListed, IsValidityIn}
pub use Rattle.vortex_columns.specs.ValidRows.{either_nullable}
pub use Rattle.vortex_operators.specs.Arithmetic.{integer_of_both}
pub use Rattle.vortex_operators.specs.Between.{bound_operator}
pub use Rattle.vortex_operators.specs.Kleene.{kleene}
pub use Rattle.vortex_operators.specs.OperatorValues.{not_value, holds, comparison_value}
pub use Rattle.vortex_operators.specs.Operators.{is_boolean, compare_swap}
pub use Rattle.vortex_operators.specs.declared.operators.CompareOperator.{CompareOperator}
pub use Rattle.vortex_operators.specs.declared.operators.CompareOperator.TheVariants.{Eq, NotEq, Gt}
pub use Rattle.vortex_operators.specs.declared.operators.CompareOperator.TheVariants.{Gte, Lt, Lte}
pub use Rattle.vortex_operators.specs.declared.operators.Operator.{Operator}
pub use Rattle.vortex_operators.specs.declared.operators.Operator.TheVariants.{And, Or}
pub use Rattle.vortex_errors.specs.Answers.{Answers, AnswersUnlessMemory}
pub use Rattle.vortex_types.specs.LogicalTypes.{is_bool_type, bool_type, is_text_type}
pub use Rattle.vortex_types.specs.TypeOf.{allows_null, type_of}
pub use Rattle.vortex_columns.specs.ValidityView.{validity_of, FitsRows, array}
pub use Rattle.vortex_types.specs.Values.{null, number, truth, truth_of}
