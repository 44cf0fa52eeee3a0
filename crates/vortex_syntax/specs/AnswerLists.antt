-- Lists of answers: `a as name, b, price * 2 as "twice"`.
use Rattle.std.specs.Prelude.{◌≡◌, ℕ, Bool, true, false, List, [], ◌∷◌, ◌++◌, map, Option}
use Rattle.std.specs.Prelude.{Some, None, IfSome, option_map}
use Rattle.vortex_syntax.specs.declared.token.Sign.TheVariants as sign
use Rattle.vortex_syntax.specs.declared.answer_list.SyntaxAnswer as read
use Rattle.vortex_syntax.specs.Tokens as token
use Rattle.vortex_syntax.specs.Tokens.{Token, token_in}
use Rattle.vortex_syntax.specs.Lexing.{Lexes}
use Rattle.vortex_syntax.specs.Syntax.{Syntax}
use Rattle.vortex_syntax.specs.Levels.{Fits}
use Rattle.vortex_syntax.specs.Spelling.{spelling}
use Rattle.vortex_syntax.specs.Nesting.{nests}
use Rattle.vortex_syntax.specs.Postfix.{Step, step_in, postfix}

-- a tree, and its name where it has one
pub record Answer : Type 0 where
  pub tree : Syntax
  pub name : Option Token

abbrev pub is_name : Token → Bool
is_name (token.name w) = true
is_name (token.quoted w) = true
is_name _ = false

abbrev pub name_tokens : Option Token → List Token
name_tokens None = []
name_tokens (Some n) = token.sign sign.As ∷ n ∷ []

-- The tokens are those of the answer's tree, whose operands fit their levels, and, if it has a
-- name, `as` and the name.
pub record SpellsAnswer (ts : List Token) (a : Answer) : Type 0 where
  pub levels : Fits a.tree
  pub named : IfSome a.name (λ n. is_name n ≡ true)
  pub tokens : ts ≡ spelling a.tree ++ name_tokens a.name

-- The tokens are those of one answer, or of one, a comma and more answers.
pub data SpellsAnswers : List Token → List Answer → Type 0 where
  one : {ts : List Token} {a : Answer} → SpellsAnswer ts a → SpellsAnswers ts (a ∷ [])
  more : {ts vs : List Token} {a : Answer} {bs : List Answer} (us : List Token)
      → ts ≡ us ++ (token.sign sign.Comma ∷ vs) → SpellsAnswer us a → SpellsAnswers vs bs
      → SpellsAnswers ts (a ∷ bs)

-- The text is read as the list: its tokens are the list's, and brackets nest no deeper than
-- allowed.
pub record ReadsAnswers (text : List ℕ) (answers : List Answer) : Type 0 where
  pub ts : List Token
  pub lexed : Lexes text ts
  pub spelled : SpellsAnswers ts answers
  pub nested : nests ts ≡ true

-- the result for an answer: its tree's steps in postfix order, and its name
pub record Told : Type 0 where
  pub steps : List Step
  pub name : Option Token

abbrev pub told : Answer → Told
told a = record { steps = postfix a.tree; name = a.name }

abbrev pub answer_in : read.SyntaxAnswer → Told
answer_in a = record { steps = map step_in a.tree.steps.items; name = option_map token_in a.name }
