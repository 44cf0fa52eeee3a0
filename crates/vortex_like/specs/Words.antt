-- The words that contracts use, from one module.
pub use Rattle.vortex_errors.specs.Answers.{AnswersUnlessMemory}
pub use Rattle.vortex_types.specs.LogicalTypes.{is_text_type}
pub use Rattle.vortex_columns.specs.ValidityView.{validity_of}
pub use Rattle.vortex_types.specs.Values.{text, is_null}
pub use Rattle.vortex_columns.specs.ColumnView.{row}
pub use Rattle.vortex_like.specs.AsciiFolds.{AreAsciiFolds, folded}
pub use Rattle.vortex_like.specs.Backs.{IsLast, IsFurther}
pub use Rattle.vortex_like.specs.ByteTests.{folded_bytes, folds_alike, front_folds_alike}
pub use Rattle.vortex_like.specs.ByteTests.{end_folds_alike, holds_inside}
pub use Rattle.vortex_like.specs.Cuts.{is_special, IsPassed, StartsSpecial, IsCutOf}
pub use Rattle.vortex_like.specs.EachPattern.{IsCompiled, AreBothValid, IsKept, IsKeptAt}
pub use Rattle.vortex_like.specs.Forms.{form_of, plain_form, folded_form, is_percent}
pub use Rattle.vortex_like.specs.Fronts.{IsNeeded, IsNeededEnd, IsLastPart}
pub use Rattle.vortex_like.specs.Gathered.{IsBatch, ArePlaces, IsNext, IsHeldAt, AreHeld}
pub use Rattle.vortex_like.specs.FormTests.{test_form, test_tokens, test_folds, is_ascii_form}
pub use Rattle.vortex_like.specs.FormTests.{form_said, IsTestOf}
pub use Rattle.vortex_like.specs.Shapes.{IsFrontOf, IsPercentOf, IsShapeOf}
pub use Rattle.vortex_like.specs.Shapes.{whole_tokens, front_tokens, end_tokens, inside_tokens}
pub use Rattle.vortex_like.specs.Patterns.{pattern_of, like}
pub use Rattle.vortex_like.specs.Places.{begins_with_any, first_accepts, asked}
pub use Rattle.vortex_like.specs.Rows.{AreTold, IsSaid, turned, IsLikeBit, AreLikeBits}
pub use Rattle.vortex_like.specs.Rows.{IsConstantOf, HasLikeRows}
pub use Rattle.vortex_like.specs.Symbols.{symbol_token}
pub use Rattle.vortex_like.specs.TextRows.{texts_of, text_at, IsTextOf, AreTexts, AreAscii}
pub use Rattle.vortex_like.specs.TextRows.{IsTextColumn, IsRepeated}
pub use Rattle.vortex_like.specs.Tokens.{any, one, character, is_any, accepts, plain_token}
pub use Rattle.vortex_like.specs.Tokens.{is_escape, backslash, tokens_of, Match, is_match}
pub use Rattle.vortex_like.specs.Tokens.{TestDecidesMatch}
pub use Rattle.vortex_like.specs.UnescapedTexts.{IsUnescaped}
pub use Rattle.vortex_like.specs.Variants.{is_wildcard, meets_escape, IsVariantOf, TellsMatches}
