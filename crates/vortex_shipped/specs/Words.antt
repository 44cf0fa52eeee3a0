-- The words that this crate's contracts use.
pub use Rattle.vortex_errors.specs.Answers.{AnswersUnlessMemory}
pub use Rattle.vortex_types.specs.TypeOf.{type_of}
pub use Rattle.vortex_kernels.specs.NullTests.{HasTests}
pub use Rattle.vortex_interface.specs.Rules.{no_rules}
pub use Rattle.vortex_interface.specs.Shipped.{Shipped, shipped_meaning, shipped_lawful}
pub use Rattle.vortex_interface.specs.Shipped.BinaryFunction.{binary_id, both_bool, compared_type}
pub use Rattle.vortex_interface.specs.Shipped.BinaryFunction.{operator_type, operator_place}
pub use Rattle.vortex_interface.specs.Shipped.NotFunction.{not_id}
pub use Rattle.vortex_interface.specs.Shipped.NullTestFunctions.{null_test_id, null_test_value}
pub use Rattle.vortex_interface.specs.Shipped.CastFunction.{cast_id, cast_options_text}
pub use Rattle.vortex_interface.specs.Shipped.BetweenFunction.{between_id}
pub use Rattle.vortex_interface.specs.Shipped.LikeFunction.{like_id, like_words, escape_text}
pub use Rattle.vortex_interface.specs.Arithmetic.{arithmetic_type}
pub use Rattle.vortex_interface.specs.CallTexts.{Appends, unary_before}
pub use Rattle.vortex_interface.specs.Answering.{AnswersShippedType}
pub use Rattle.vortex_shipped.specs.Typing.{IsTypeFound}
pub use Rattle.vortex_shipped.specs.Texts.{shipped_parts, WritesBefore, AppendsCall}
pub use Rattle.vortex_operators.specs.OptionBytes.{operator_bytes, operator_read, between_bytes}
pub use Rattle.vortex_operators.specs.OptionBytes.{between_read}
pub use Rattle.vortex_like.specs.OptionBytes.{like_bytes, like_read, IsLikeFormat}
pub use Rattle.vortex_interface.specs.OptionBytes.{WritesBytes, ReadsOptions}
pub use Rattle.vortex_interface.specs.OptionBytes.{shipped_bytes, with_options, HasCharacters}
pub use Rattle.vortex_errors.specs.OptionBytes.{IsFormat}
