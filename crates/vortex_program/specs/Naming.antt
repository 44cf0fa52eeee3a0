-- The names of answers.
use Rattle.std.specs.Prelude.{◌≡◌, ◌⊎◌, ◌<◌, ℕ, List, [], ◌∷◌, Option, Some, None}
use Rattle.std.specs.Prelude.{IfSome, string_bytes}
use Rattle.std.specs.Str.{IsUtf8}
use Rattle.vortex_types.specs.LogicalTypes.{Fields, field_count}
use Rattle.vortex_types.specs.FieldNames.{field_name}
use Rattle.vortex_syntax.specs.Tokens.{Token}
use Rattle.vortex_syntax.specs.Lexing.{Lexes}
use Rattle.vortex_syntax.specs.AnswerTexts.{answer_texts}
use Rattle.vortex_interface.specs.Printing.{tree_text}
use Rattle.vortex_functions.specs.Binding.{IsLeafAt}
use Rattle.vortex_expressions.specs.Items.{Tree}
use Rattle.vortex_expressions.specs.Answers.{Answer}
use Rattle.vortex_expressions.specs.Writing.{text_of_tree}
use Rattle.vortex_program.specs.declared.answer.Answer as bound

-- the text of a tree: as people write it, or else as it is printed
abbrev pub IsTreeText : Tree → List ℕ → Type 0
IsTreeText t words =
    (text_of_tree t ≡ Some words)
    ⊎ ((text_of_tree t ≡ None) × IfSome (tree_text t) (λ printed. words ≡ printed))

-- an answer, and its words in the text, without its name
pub record Worded : Type 0 where
  pub answer : Answer
  pub words : List ℕ

abbrev pub worded_as : Answer → List ℕ → Worded
worded_as a words = record { answer = a; words = words }

-- each answer with its words
abbrev pub worded : List Answer → List (List ℕ) → List Worded
worded [] words = []
worded (a ∷ list) [] = worded_as a [] ∷ worded list []
worded (a ∷ list) (w ∷ words) = worded_as a w ∷ worded list words

-- the words of the answers of a text
abbrev pub AreWordsOf : List ℕ → List (List ℕ) → Type 0
AreWordsOf text words = (ts : List Token) → Lexes text ts → words ≡ answer_texts ts

-- the words of an answer as a name; the text of its tree if they are no UTF-8
abbrev pub IsWordsOf : List ℕ → Tree → List ℕ → Type 0
IsWordsOf words t name =
    (IsUtf8 words × (name ≡ words)) ⊎ ((¬ IsUtf8 words) × IsTreeText t name)

-- the name of an answer that is given none: that of the field which it is, or else its words
pub data IsNameOf (scope : Fields) (words : List ℕ) (t : Tree) (name : List ℕ) : Type 0 where
  of_field : (k : ℕ) → IsLeafAt k t → k < field_count scope → name ≡ field_name k scope
      → IsNameOf scope words t name
  of_words : ((k : ℕ) → k < field_count scope → ¬ IsLeafAt k t) → IsWordsOf words t name
      → IsNameOf scope words t name

-- the name that the text gives an answer, if it does
abbrev pub IsNamed : Fields → List ℕ → Tree → Option (List ℕ) → List ℕ → Type 0
IsNamed scope words t None name = IsNameOf scope words t name
IsNamed scope words t (Some given) name = name ≡ given

-- the tree of an answer, of its kind, under its name
pub record IsNamedAnswer (scope : Fields) (a : Worded) (b : bound.Answer) : Type 0 where
  pub tree : b.tree ≡ a.answer.tree
  pub kind : b.kind ≡ a.answer.kind
  pub name : IsNamed scope a.words a.answer.tree a.answer.name (string_bytes b.name)
