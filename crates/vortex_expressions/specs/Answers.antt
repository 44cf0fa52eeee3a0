-- Lists of answers over the columns of a scope with kinds, each a tree with its name if it has one.
use Rattle.std.specs.Prelude.{◌≡◌, ℕ, List, [], ◌∷◌, Option, Some, None, string_bytes}
use Rattle.std.specs.Option.{option_map}
use Rattle.vortex_types.specs.LogicalTypes.{Fields}
use Rattle.vortex_logical.specs.declared.kind.Kind.{Kind}
use Rattle.vortex_syntax.specs.Tokens.{Token, name, quoted}
use Rattle.vortex_syntax.specs.AnswerLists as syntax
use Rattle.vortex_syntax.specs.AnswerLists.{Told, ReadsAnswers}
use Rattle.vortex_expressions.specs.declared.answers.Answer as held
use Rattle.vortex_expressions.specs.declared.refusal.Refusal.{Refusal}
use Rattle.vortex_expressions.specs.Outcomes.{Outcome, answers, refuses, missing, and_then}
use Rattle.vortex_expressions.specs.Items.{Tree}
use Rattle.vortex_expressions.specs.Calls.{text_of, between_quotes}
use Rattle.vortex_expressions.specs.Binding.{LogicalTree, logical_of}
use Rattle.vortex_expressions.specs.Stacks.{logical_left}

-- a tree, the kind of its values, and a name
pub record Answer : Type 0 where
  pub tree : Tree
  pub kind : Kind
  pub name : Option (List ℕ)

abbrev pub answer_in : held.Answer → Answer
answer_in a = record { tree = a.tree; kind = a.kind; name = option_map string_bytes a.name }

-- the name after `as`, without its quotes
abbrev pub name_of : Token → Outcome (List ℕ)
name_of (name w) = text_of w
name_of (quoted w) = between_quotes 34 w
name_of t = missing

abbrev pub written_name : Option Token → Outcome (Option (List ℕ))
written_name None = answers None
written_name (Some t) = and_then (name_of t) (λ w. answers (Some w))

abbrev pub with_name : Option Token → LogicalTree → Outcome Answer
with_name n t =
    and_then (written_name n)
    (λ w. answers (record { tree = t.tree; kind = t.kind; name = w }))

-- first all of an answer, then those after it
abbrev pub with_first : Outcome Answer → Outcome (List Answer) → Outcome (List Answer)
with_first a o = and_then a (λ x. and_then o (λ xs. answers (x ∷ xs)))

module _ (scope : Fields) (kinds : List Kind) where
  abbrev pub answer_of : syntax.Answer → Outcome Answer
  answer_of a = and_then (logical_of scope kinds a.tree) (with_name a.name)

  abbrev pub answers_of : List syntax.Answer → Outcome (List Answer)
  answers_of [] = answers []
  answers_of (a ∷ bs) = with_first (answer_of a) (answers_of bs)

  -- the same from the steps of the trees
  abbrev pub answer_left : Told → Outcome Answer
  answer_left a = and_then (logical_left scope kinds a.steps) (with_name a.name)

  abbrev pub answers_left : List Told → Outcome (List Answer)
  answers_left [] = answers []
  answers_left (a ∷ bs) = with_first (answer_left a) (answers_left bs)

  -- the text means the list
  pub record ExpressesAll (text : List ℕ) (list : List Answer) : Type 0 where
    pub syntax : List syntax.Answer
    pub read : ReadsAnswers text syntax
    pub bound : answers_of syntax ≡ answers list

  -- the text is a list of answers with this error
  pub record IsRefusedAll (text : List ℕ) (r : Refusal) : Type 0 where
    pub syntax : List syntax.Answer
    pub read : ReadsAnswers text syntax
    pub refused : answers_of syntax ≡ refuses r
