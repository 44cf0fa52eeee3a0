-- What a parsed text means over the columns of a scope, whose values have kinds.
use Rattle.std.specs.Prelude.{◌≡◌, ℕ, List, [], ◌∷◌, map, None}
use Rattle.vortex_types.specs.LogicalTypes.{Fields}
use Rattle.vortex_functions.specs.Walks.{AllMean}
use Rattle.vortex_syntax.specs.declared.tree.SyntaxTree.{SyntaxTree}
use Rattle.vortex_syntax.specs.Tokens.{Token}
use Rattle.vortex_syntax.specs.Syntax.{Syntax}
use Rattle.vortex_syntax.specs.Postfix.{step_in}
use Rattle.vortex_syntax.specs.Grammar.{Reads}
use Rattle.vortex_syntax.specs.Refusals.{ListStopsAt, TreeStopsAt}
use Rattle.vortex_syntax.specs.AnswerLists as syntax
use Rattle.vortex_syntax.specs.AnswerLists.{Told, told, ReadsAnswers, answer_in}
use Rattle.vortex_expressions.specs.declared.refusal.Refusal.{Refusal}
use Rattle.vortex_logical.specs.declared.kind.Kind.{Kind}
use Rattle.vortex_expressions.specs.Binding.{LogicalTree, ExpressesLogical, IsRefusedLogical}
use Rattle.vortex_expressions.specs.Answers.{Answer, ExpressesAll, IsRefusedAll}
use Rattle.vortex_program.specs.declared.answer.Answer as bound
use Rattle.vortex_program.specs.declared.parsed.Parsed.{Parsed}
use Rattle.vortex_program.specs.declared.form.Form.{Form}
use Rattle.vortex_program.specs.declared.form.Form.TheVariants as form
use Rattle.vortex_program.specs.Naming.{IsNamedAnswer, AreWordsOf, worded}

-- one tree, without a name
abbrev pub unnamed : SyntaxTree → List Told
unnamed t = record { steps = map step_in t.steps.items; name = None } ∷ []

pub record ReadsList (text : List ℕ) (parsed : List Told) : Type 0 where
  pub list : List syntax.Answer
  pub read : ReadsAnswers text list
  pub is : parsed ≡ map told list

pub record ReadsOne (text : List ℕ) (parsed : List Told) : Type 0 where
  pub tree : Syntax
  pub read : Reads text tree
  pub is : parsed ≡ told (record { tree = tree; name = None }) ∷ []

-- what the text is read as
abbrev pub IsParsed : Form → List ℕ → List Told → Type 0
IsParsed form.Answers = ReadsList
IsParsed form.Condition = ReadsOne

-- its answers are what its text is read as
abbrev pub IsRead : Parsed → Type 0
IsRead p = IsParsed p.form p.text.now (map answer_in p.answers.items)

pub record MeansOne (scope : Fields) (kinds : List Kind) (text : List ℕ) (list : List Answer)
    : Type 0 where
  pub one : LogicalTree
  pub said : ExpressesLogical scope kinds text one
  pub is : list ≡ record { tree = one.tree; kind = one.kind; name = None } ∷ []

-- the text means the list over the columns of a scope, of these kinds by place
abbrev pub Means : Form → Fields → List Kind → List ℕ → List Answer → Type 0
Means form.Answers = ExpressesAll
Means form.Condition = MeansOne

-- the text is refused so over the columns of a scope
abbrev pub IsRefusedOver : Form → Fields → List Kind → List ℕ → Refusal → Type 0
IsRefusedOver form.Answers = IsRefusedAll
IsRefusedOver form.Condition = IsRefusedLogical

-- where tokens stop that are none of the form
abbrev pub StopsAt : Form → List Token → ℕ → Type 0
StopsAt form.Answers = ListStopsAt
StopsAt form.Condition = TreeStopsAt

-- the answers that the text means, each of its kind and under its name
pub record AreAnswersOf (f : Form) (scope : Fields) (kinds : List Kind) (text : List ℕ)
    (answers : List bound.Answer) : Type 0 where
  pub list : List Answer
  pub words : List (List ℕ)
  pub meant : Means f scope kinds text list
  pub written : AreWordsOf text words
  pub each : AllMean (IsNamedAnswer scope) (worded list words) answers
