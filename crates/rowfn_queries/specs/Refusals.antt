-- Why words ask nothing of rows.
use Rattle.std.specs.Prelude.{◌≡◌, ◌⊎◌, ℕ, List, true, false, ⊤, Option, Some, None, Contains}
use Rattle.std.specs.Borrow.{Bor}
use Rattle.vortex_types.specs.LogicalTypes.{Fields, is_bool_type}
use Rattle.vortex_types.specs.TypeOf.{type_of}
use Rattle.vortex_interface.specs.Eval.{tree_type}
use Rattle.vortex_expressions.specs.Items.{meaning}
use Rattle.vortex_expressions.specs.Reading.{TellsWhy}
use Rattle.vortex_program.specs.declared.answer.Answer.{Answer}
use Rattle.vortex_program.specs.declared.form.Form.{Form}
use Rattle.vortex_program.specs.declared.form.Form.TheVariants as form
use Rattle.vortex_program.specs.Names.{AreNamesOf}
use Rattle.vortex_program.specs.Texts.{AreAnswersOf, IsRefusedOver, StopsAt}
use Rattle.rowfn_queries.specs.declared.error.TextPlace.{TextPlace}
use Rattle.rowfn_queries.specs.declared.error.TextPlace.TheVariants as place
use Rattle.rowfn_queries.specs.declared.error.QueryError.{QueryError}
use Rattle.rowfn_queries.specs.declared.error.QueryError.TheVariants as error
use Rattle.rowfn_queries.specs.declared.question.Question.{Question}
use Rattle.rowfn_queries.specs.declared.query.Words.{Words}
use Rattle.rowfn_queries.specs.Columns.{Columns}
use Rattle.rowfn_queries.specs.DeclaredColumns.{DeclaredColumns, unplaced}
use Rattle.rowfn_queries.specs.Queries.{AskedBy}
use Rattle.rowfn_queries.specs.Reading.{DeclaredBy, AreInferred, IsWidened, columns_read}
use Rattle.rowfn_queries.specs.Scopes.{IsRefusedScope}

-- where a text of that form stands among the words of a program
abbrev pub place_of : Form → TextPlace
place_of form.Answers = place.Expression
place_of form.Condition = place.Where

-- the answer has that type and kind, which is not of truth values; or memory ran out
abbrev pub IsNoTruth : Answer → QueryError → Type 0
IsNoTruth a (error.NoTruth u) =
    (tree_type meaning a.tree ≡ Some (type_of u.dtype)) × (a.kind ≡ u.kind)
    × (is_bool_type (type_of u.dtype) ≡ false)
IsNoTruth a error.OutOfMemory = ⊤
IsNoTruth a e = ⊥

-- one of the answers of a condition is no truth value; or memory ran out
pub record RefusesTruth (f : Form) (answers : List Answer) (e : QueryError) : Type 0 where
  pub answer : Answer
  pub of_condition : f ≡ form.Condition
  pub among : Contains answers answer
  pub told : IsNoTruth answer e

-- why a text is refused over columns; or memory ran out
abbrev pub RefusesOver : Form → Columns → List ℕ → QueryError → Type 0
RefusesOver f columns text (error.Unread p e mixed) =
    (p ≡ place_of f) × TellsWhy (StopsAt f) (IsRefusedOver f columns.fields columns.kinds text) text e
RefusesOver f columns text (error.NoTruth t) =
    (answers : List Answer) × AreAnswersOf f columns.fields columns.kinds text answers
    × RefusesTruth f answers (error.NoTruth t)
RefusesOver f columns text error.OutOfMemory = ⊤
RefusesOver f columns text e = ⊥

-- why a text is refused over the columns that it reads; or memory ran out
pub record RefusesRead (f : Form) (read : List (List ℕ) → Columns) (text : List ℕ) (e : QueryError)
    : Type 0 where
  pub names : List (List ℕ)
  pub named : AreNamesOf f text names
  pub refused : RefusesOver f (read names) text e

abbrev pub RefusesText : Form → (List (List ℕ) → Columns) → List ℕ → QueryError → Type 0
RefusesText f read text e = RefusesRead f read text e ⊎ (e ≡ error.OutOfMemory)

abbrev pub RefusesBy : Form → (List (List ℕ) → Columns) → Option (Bor (List ℕ)) → QueryError
    → Type 0
RefusesBy f read None e = ⊥
RefusesBy f read (Some text) e = RefusesText f read text.now e

-- why words are refused over columns: by the condition, or, where it is none, by the answers
pub data RefusesBinding (words : Words) (columns inferred : Columns) (e : QueryError) : Type 0 where
  by_condition :
      RefusesBy form.Condition (columns_read columns inferred words form.Condition) words.condition e
      → RefusesBinding words columns inferred e
  by_answers : (placed : Fields → List (Option ℕ)) (condition : Option Question)
      → AskedBy form.Condition (columns_read columns inferred words form.Condition) placed
      words.condition condition
      → RefusesBy form.Answers (columns_read columns inferred words form.Answers) words.answers e
      → RefusesBinding words columns inferred e

-- a text has a syntax error, whatever the columns are
abbrev pub IsNoText : Form → List ℕ → QueryError → Type 0
IsNoText f text (error.Unread p e mixed) = (p ≡ place_of f) × TellsWhy (StopsAt f) (λ _. ⊥) text e
IsNoText f text e = ⊥

abbrev pub RefusesParsing : Form → Option (Bor (List ℕ)) → QueryError → Type 0
RefusesParsing f None e = ⊥
RefusesParsing f (Some text) e = IsNoText f text.now e

abbrev pub RefusesTexts : Words → QueryError → Type 0
RefusesTexts words e =
    RefusesParsing form.Answers words.answers e ⊎ RefusesParsing form.Condition words.condition e

-- why a text declares no columns
abbrev pub RefusesScope : List ℕ → QueryError → Type 0
RefusesScope text (error.Columns e) = IsRefusedScope text e.reason
RefusesScope text e = ⊥

abbrev pub RefusesDeclared : Option (Bor (List ℕ)) → QueryError → Type 0
RefusesDeclared None e = ⊥
RefusesDeclared (Some text) e = RefusesScope text.now e

-- the input has no header, or its beginning cannot be read; or memory ran out
abbrev pub IsOfInput : QueryError → Type 0
IsOfInput (error.Header fault) = ⊤
IsOfInput (error.Reading e) = ⊤
IsOfInput error.OutOfMemory = ⊤
IsOfInput e = ⊥

-- why words ask nothing: by the columns that they declare, by a syntax error, by the input, or over
-- the columns that they read; or memory ran out
pub data RefusesWords (words : Words) (e : QueryError) : Type 0 where
  by_columns : RefusesDeclared words.columns e → RefusesWords words e
  by_syntax : RefusesTexts words e → RefusesWords words e
  by_input : words.infers ≡ true → IsOfInput e → RefusesWords words e
  by_binding : (declared : DeclaredColumns) (inferred wide : Columns)
      → DeclaredBy words.columns declared → AreInferred inferred
      → IsWidened (unplaced declared) inferred wide → RefusesBinding words wide inferred e
      → RefusesWords words e
  without_memory : e ≡ error.OutOfMemory → RefusesWords words e
