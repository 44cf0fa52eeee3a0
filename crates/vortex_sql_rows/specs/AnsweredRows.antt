-- The result of one row: a value, or a text that is made.
use Rattle.std.specs.Prelude.{◌≡◌, Option, Some, None, Result, MatchResult, String, string_bytes}
use Rattle.std.specs.declared.alloc.Global.{Global}
use Rattle.vortex_errors.specs.Answers.{Answers}
use Rattle.vortex_errors.specs.declared.error.VortexError.{VortexError}
use Rattle.vortex_types.specs.Values.{Value, null, text}
use Rattle.vortex_columns.specs.declared.cell.Cell.{Cell}
use Rattle.vortex_columns.specs.Cells.{cell_value}
use Rattle.vortex_interface.specs.Outcomes.{Outcome, gives}
use Rattle.vortex_sql_rows.specs.Row.{RefusesRow}

-- the value of the cell, or the error of the row
abbrev pub AnswersRow : Outcome → Result Cell VortexError → Type 0
AnswersRow o r = MatchResult r (λ c. o ≡ gives (cell_value c)) (RefusesRow o)

abbrev pub text_or_null : Option (String Global) → Value
text_or_null None = null
text_or_null (Some s) = text (string_bytes s)

-- the text of a row or null, or its error; or memory ran out
abbrev pub MakesRow : Outcome → Result (Option (String Global)) VortexError → Type 0
MakesRow o r = Answers r (λ made. o ≡ gives (text_or_null made)) (RefusesRow o)
