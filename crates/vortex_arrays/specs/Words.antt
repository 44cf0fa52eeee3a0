-- The words that this crate's contracts use.
pub use Rattle.std.specs.List.{Contains}
pub use Rattle.vortex_errors.specs.declared.error.VortexError.TheVariants.{InvalidColumn}
pub use Rattle.vortex_errors.specs.Answers.{Answers, AnswersUnlessMemory, MadeWhere}
pub use Rattle.vortex_types.specs.LogicalTypes.{is_bool_type, is_nullable}
pub use Rattle.vortex_types.specs.TypeEquality.{alike_types}
pub use Rattle.vortex_types.specs.TypeOf.{allows_null, type_of}
pub use Rattle.vortex_types.specs.Values.{null, truth}
pub use Rattle.vortex_columns.specs.ColumnView.{ColumnView, constant_column}
pub use Rattle.vortex_columns.specs.Taken.{AreRowsOf, IsTaken}
pub use Rattle.vortex_operators.specs.Operators.{compare_operator_of, is_boolean}
pub use Rattle.vortex_operators.specs.declared.operators.CompareOperator.{CompareOperator}
pub use Rattle.vortex_operators.specs.declared.operators.Operator.{Operator}
pub use Rattle.vortex_kernels.specs.Boolean.{are_bools, AnswersBoolean, HasBooleanRows}
pub use Rattle.vortex_kernels.specs.Comparison.{AnswersCompare, HasComparisonRows, IsConstantOf}
pub use Rattle.vortex_kernels.specs.Comparison.{is_null_constant}
pub use Rattle.vortex_interface.specs.Outcomes.{types_in}
pub use Rattle.vortex_interface.specs.Functions.{ours}
pub use Rattle.vortex_interface.specs.Trees.{called, literal, trees_of, node_count}
pub use Rattle.vortex_interface.specs.Eval.{tree_type, tree_types}
pub use Rattle.vortex_interface.specs.ReduceRules.{reduce}
pub use Rattle.vortex_interface.specs.Driver.{step}
pub use Rattle.vortex_interface.specs.Weights.{added, weights, weight_told}
pub use Rattle.vortex_functions.specs.FunctionOf.{function_of}
pub use Rattle.vortex_functions.specs.Walks.{AllMean, IsCopy}
pub use Rattle.vortex_functions.specs.Arrays.{tree_in, rows_in, trees_in, column_array, column_in}
pub use Rattle.vortex_functions.specs.Arrays.{children_in, other_rows, IsTyped}
pub use Rattle.vortex_arrays.specs.Encoded.{IsDecoded, GivesWhere, InOrder, HasRowsAs}
pub use Rattle.vortex_arrays.specs.Encoded.{boolean_answers, compare_answers, asked}
pub use Rattle.vortex_arrays.specs.Encoded.{is_value_constant, is_settled_beside, are_accepted}
pub use Rattle.vortex_arrays.specs.Encoded.{AnswersComparison}
pub use Rattle.vortex_arrays.specs.Dictionary.{DictView, coded_dict, decoded, AreCoded, AllCoded}
pub use Rattle.vortex_arrays.specs.Dictionary.{compares_beside, combines_beside}
pub use Rattle.vortex_arrays.specs.Kept.{codes_in, AreKnown}
pub use Rattle.vortex_arrays.specs.PushDown.{constants, inputs_of, TakesInputs, RefusesInputs}
pub use Rattle.vortex_arrays.specs.PushDown.{MayRunOver, AnswersPushDown}
pub use Rattle.vortex_arrays.specs.Laws.{RowsAreOfRows, ErrsWhereRowsFault}
pub use Rattle.vortex_arrays.specs.Calls.{IsArrayCall, AnswersCallOfRows, AnswersCall}
pub use Rattle.vortex_arrays.specs.Calls.{AnswersOperands}
pub use Rattle.vortex_arrays.specs.Executing.{ArraysErrWhereArithmeticDoes}
