-- The words that this crate's contracts use.
pub use Rattle.vortex_errors.specs.Answers.{Answers, AnswersUnlessMemory}
pub use Rattle.rowfn_lines.specs.Commands.{rows, column, get, literal, call, show, optimize, run}
pub use Rattle.rowfn_lines.specs.Commands.{run_after, command_in, command_of}
pub use Rattle.rowfn_scripts.specs.Sessions.{refuses, fresh, least_count, steps_text, ShowsTop}
pub use Rattle.rowfn_scripts.specs.Sessions.{RunsTop, RunsAfterTop, column_line, pushed}
pub use Rattle.rowfn_scripts.specs.Stepping.{MakesStep, after_text, Steps}
pub use Rattle.rowfn_scripts.specs.Stepping.{script_meaning, script_rules}
pub use Rattle.rowfn_scripts.specs.Scopes.{place_of}
