-- The columns that a text names.
use Rattle.std.specs.Prelude.{◌≡◌, ℕ, List, [], ◌∷◌, Option, Some, None, if◌then◌else◌}
use Rattle.std.specs.List.{flat_map}
use Rattle.std.specs.Str.{is_utf8}
use Rattle.vortex_syntax.specs.Tokens.{Token, name, quoted}
use Rattle.vortex_syntax.specs.Postfix.{Step, operand}
use Rattle.vortex_syntax.specs.AnswerLists.{Told}
use Rattle.vortex_expressions.specs.Calls.{unquoted}
use Rattle.vortex_program.specs.declared.form.Form.{Form}
use Rattle.vortex_program.specs.Texts.{IsParsed}

abbrev pub text_named : List ℕ → Option (List ℕ)
text_named bytes = if is_utf8 bytes then Some bytes else None

-- the name that a token is, without its quotes
abbrev pub token_named : Token → Option (List ℕ)
token_named (name w) = text_named w
token_named (quoted w) = text_named (unquoted 34 w)
token_named t = None

abbrev pub listed : Option (List ℕ) → List (List ℕ)
listed None = []
listed (Some w) = w ∷ []

-- the column that a step names, if it names one
abbrev pub step_names : Step → List (List ℕ)
step_names (operand t) = listed (token_named t)
step_names s = []

abbrev pub answer_names : Told → List (List ℕ)
answer_names a = flat_map step_names a.steps

-- the columns that a text names, in order, as often as it names them
pub record AreNamesOf (form : Form) (text : List ℕ) (names : List (List ℕ)) : Type 0 where
  pub answers : List Told
  pub parsed : IsParsed form text answers
  pub listed : names ≡ flat_map answer_names answers
