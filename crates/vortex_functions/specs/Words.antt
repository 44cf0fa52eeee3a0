-- The words that this crate's contracts use.
pub use Rattle.vortex_errors.specs.Answers.{AnswersUnlessMemory}
pub use Rattle.vortex_types.specs.LogicalTypes.{field_count}
pub use Rattle.vortex_types.specs.TypeOf.{type_of, struct_fields}
pub use Rattle.vortex_columns.specs.ColumnView.{AreTyped}
pub use Rattle.vortex_interface.specs.Outcomes.{types_in}
pub use Rattle.vortex_interface.specs.Meaning.{fits}
pub use Rattle.vortex_interface.specs.Shipped.{Shipped, shipped_named}
pub use Rattle.vortex_interface.specs.Shipped.BinaryFunction.{operator_called}
pub use Rattle.vortex_interface.specs.Shipped.NotFunction.{is_not_word}
pub use Rattle.vortex_interface.specs.Shipped.NullTestFunctions.{null_test_word}
pub use Rattle.vortex_interface.specs.Shipped.CastFunction.{is_cast_word}
pub use Rattle.vortex_interface.specs.Shipped.BetweenFunction.{between_named, bound_named}
pub use Rattle.vortex_interface.specs.Shipped.LikeFunction.{like_named, like_word}
pub use Rattle.vortex_interface.specs.Functions.{ours, function_id, function_arity}
pub use Rattle.vortex_interface.specs.Functions.{function_child_name, function_type, function_means}
pub use Rattle.vortex_interface.specs.Functions.{function_strict, function_infallible}
pub use Rattle.vortex_interface.specs.Answering.{AnswersFunctionType, AnswersFunction}
pub use Rattle.vortex_interface.specs.CallTexts.{Appends}
pub use Rattle.vortex_interface.specs.Trees.{constant, trees_of, children_of, called, literal}
pub use Rattle.vortex_interface.specs.Trees.{node_count}
pub use Rattle.vortex_interface.specs.Eval.{tree_type, tree_types}
pub use Rattle.vortex_interface.specs.Execution.{LeavesFit, other_length}
pub use Rattle.vortex_interface.specs.Driver.{simplify_or_reduce, step}
pub use Rattle.vortex_interface.specs.Made.{IsBound}
pub use Rattle.vortex_interface.specs.Weights.{added, weight, weights, weight_told}
pub use Rattle.vortex_interface.specs.Printing.{tree_text}
pub use Rattle.vortex_functions.specs.FunctionOf.{function_of, operator_in, is_not, instance_in}
pub use Rattle.vortex_functions.specs.Texts.{IsTextOf}
pub use Rattle.vortex_functions.specs.WrittenTexts.{leaf_text, WritesBeforeOf, WritesPart}
pub use Rattle.vortex_functions.specs.Binding.{AnswersLeaf, AnswersBinding, IsLeaf, IsLeafAt}
pub use Rattle.vortex_functions.specs.Binding.{field_leaf, AnswersTreeCall}
pub use Rattle.vortex_functions.specs.Executing.{HasRows, NodeFits, AnswersTree, AnswersExecution}
pub use Rattle.vortex_functions.specs.Executing.{AnswersColumns, LendsLeaf, Fits}
pub use Rattle.vortex_functions.specs.Walks.{AllMean, IsCopy}
pub use Rattle.vortex_interface.specs.OptionBytes.{WritesOptionsOf}
pub use Rattle.vortex_interface.specs.FunctionTexts.{held_text, value_text}
pub use Rattle.vortex_functions.specs.SameFunctions.{AreSame, SameByIdentityAndOptions}
pub use Rattle.vortex_functions.specs.Arrays.{tree_in, rows_in, column_array, column_in}
pub use Rattle.vortex_functions.specs.Arrays.{children_in}
pub use Rattle.vortex_functions.specs.ArrayExecuting.{HasArrayRows, AnswersArray, LendsColumn}
