-- The words that contracts use, from one module.
pub use Rattle.vortex_errors.specs.Answers.{AnswersUnlessMemory}
pub use Rattle.vortex_types.specs.LogicalTypes.{is_bool_type}
pub use Rattle.vortex_types.specs.TypeEquality.{alike_types}
pub use Rattle.vortex_types.specs.Values.{is_null}
pub use Rattle.vortex_columns.specs.Cells.{cell_value}
pub use Rattle.vortex_columns.specs.ColumnView.{ColumnView, row}
pub use Rattle.vortex_columns.specs.ColumnView.{constant_column}
pub use Rattle.vortex_columns.specs.ValidityView.{validity_of}
pub use Rattle.vortex_operators.specs.Operators.{is_boolean}
pub use Rattle.vortex_kernels.specs.Boolean.{HasBooleanRows, are_bools}
pub use Rattle.vortex_kernels.specs.Comparison.{HasComparisonRows, is_null_constant}
pub use Rattle.vortex_arrays.specs.Encoded.{is_value_constant}
pub use Rattle.caller_functions.specs.RunLength.{run_at, run_column, HasRunRows, IsRunValidity}
pub use Rattle.caller_functions.specs.RunLength.{is_true, IsConstantOfScalar}
