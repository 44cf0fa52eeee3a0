-- The words that this crate's contracts use.
pub use Rattle.vortex_errors.specs.Answers.{AnswersUnlessMemory}
pub use Rattle.vortex_columns.specs.ColumnView.{ColumnView}
pub use Rattle.vortex_columns.specs.Cells.{cell_value, sequence_value, sequence_values, IsCell}
pub use Rattle.vortex_columns.specs.Cells.{IsSequence}
pub use Rattle.vortex_interface.specs.Outcomes.{types_in}
pub use Rattle.vortex_interface.specs.Meaning.{Meaning, Lawful, fits}
pub use Rattle.vortex_interface.specs.Rules.{Rules, no_rules}
pub use Rattle.vortex_interface.specs.Answering.{AnswersType, AnswersCall}
pub use Rattle.vortex_interface.specs.CallTexts.{Appends, options_text, opening, text_at}
pub use Rattle.vortex_interface.specs.Args.{ArgsView, coded_args, AreOfLength, PastInputs}
pub use Rattle.vortex_interface.specs.Texts.{Parts, IsDefaultOrOwn, WritesPart, AppendsCall}
pub use Rattle.vortex_interface.specs.OptionBytes.{MayWriteBytes, MayReadOptions}
