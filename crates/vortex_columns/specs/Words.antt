-- The words that contracts use, from one module.
pub use Rattle.vortex_errors.specs.declared.error.VortexError.TheVariants.{InvalidColumn}
pub use Rattle.vortex_errors.specs.Answers.{AnswersUnlessMemory, AnswersWhere, MadeWhere}
pub use Rattle.vortex_types.specs.LogicalTypes.{bool_type, integer_type, text_type, is_nullable}
pub use Rattle.vortex_types.specs.Order.{compare_values, kind_rank}
pub use Rattle.vortex_types.specs.ScalarView.{compare_scalars, scalar_eq}
pub use Rattle.vortex_types.specs.TypeOf.{type_of, allows_null, struct_fields}
pub use Rattle.vortex_types.specs.Typing.{Each, HasType, HaveFields, IsList, IsPair}
pub use Rattle.vortex_columns.specs.ValidityView.{array, validity_of, is_valid_row, FitsRows}
pub use Rattle.vortex_types.specs.ValueOf.{value_of, value_or_null}
pub use Rattle.vortex_types.specs.Values.{null, truth, number, text, truth_of, is_null}
pub use Rattle.vortex_types.specs.Values.{bytes}
pub use Rattle.vortex_columns.specs.SingleParts.{number_of, text_of, bytes_of}
pub use Rattle.vortex_types.specs.Values.{values_of, value_count}
pub use Rattle.vortex_columns.specs.Cells.{cell_value, sequence_value, sequence_values}
pub use Rattle.vortex_columns.specs.Cells.{IsCell, IsSequence}
pub use Rattle.vortex_columns.specs.CellTypes.{values_in, ArePair, IsEntryOf, AreSoMany}
pub use Rattle.vortex_columns.specs.ColumnView.{row, part, valid_rows, scalar_in, AreTyped}
pub use Rattle.vortex_columns.specs.ColumnView.{TellsNulls, TypeInvariant, constant_form}
pub use Rattle.vortex_columns.specs.ColumnView.{constant_column}
pub use Rattle.vortex_columns.specs.ColumnView.{null_column, HasBits, AreBits, HasInts, AreInts}
pub use Rattle.vortex_columns.specs.ColumnView.{HasBytes, AreBytes, AreBytesAt, LieWithin}
pub use Rattle.vortex_columns.specs.ColumnView.{HasField, IsField, HasKind, AreLists, AreMaps}
pub use Rattle.vortex_columns.specs.ColumnView.{AreFixedSizeLists, is_list_type, is_map_type}
pub use Rattle.vortex_columns.specs.ColumnView.{is_fixed_size_list_type}
pub use Rattle.vortex_views.specs.BorrowedValues.{borrowed_values}
pub use Rattle.vortex_views.specs.Resolved.{values_in as values_among}
pub use Rattle.vortex_columns.specs.Stored.{bool_column, MakeStructs, MakeLists}
pub use Rattle.vortex_columns.specs.Made.{int_column, text_column, byte_string_column, text_rows}
pub use Rattle.vortex_columns.specs.Made.{byte_string_rows, byte_strings_of, MakeTextRows}
pub use Rattle.vortex_columns.specs.Made.{MakeTextViews, MakeByteStringViews, MakeBorrowedTexts}
pub use Rattle.vortex_columns.specs.Made.{borrowed_texts}
pub use Rattle.vortex_columns.specs.Made.{struct_column, list_column, fixed_size_list_column}
pub use Rattle.vortex_columns.specs.Made.{map_column, MakeTexts, MakeByteStrings, MakeMaps}
pub use Rattle.vortex_columns.specs.Made.{MakeFixedSizeLists}
pub use Rattle.vortex_columns.specs.ScalarOf.{bool_scalar, int_scalar, text_scalar}
pub use Rattle.vortex_columns.specs.Taken.{AreRowsOf, IsTaken}
