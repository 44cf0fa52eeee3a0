-- What is asked of rows: answers and a condition, over columns with kinds.
use Rattle.std.specs.Prelude.{◌≡◌, ⊤, ℕ, List, Option, Some, None, IfSome, true, All}
use Rattle.std.specs.Borrow.{Bor}
use Rattle.vortex_types.specs.LogicalTypes.{Fields, is_bool_type}
use Rattle.vortex_types.specs.TypeOf.{struct_fields}
use Rattle.vortex_interface.specs.Eval.{tree_type}
use Rattle.vortex_logical.specs.declared.kind.Kind.{Kind}
use Rattle.vortex_expressions.specs.Items.{Tree, meaning}
use Rattle.vortex_program.specs.declared.form.Form.{Form}
use Rattle.vortex_program.specs.declared.form.Form.TheVariants as form
use Rattle.vortex_program.specs.Names.{AreNamesOf}
use Rattle.vortex_program.specs.Programs.{trees_of, AreOptimized}
use Rattle.vortex_program.specs.Texts.{AreAnswersOf}
use Rattle.rowfn_queries.specs.declared.question.Question.{Question}
use Rattle.rowfn_queries.specs.declared.query.Query.{Query}
use Rattle.rowfn_queries.specs.declared.query.Words.{Words}
use Rattle.rowfn_queries.specs.Columns.{Columns}
use Rattle.rowfn_queries.specs.DeclaredColumns.{DeclaredColumns, unplaced}
use Rattle.rowfn_queries.specs.Places.{places_of}
use Rattle.rowfn_queries.specs.Reading.{DeclaredBy, AreInferred, columns_read}

-- the columns of a question, and its trees as they are written
abbrev pub scope_of : Question → Fields
scope_of q = struct_fields q.program.scope

abbrev pub kinds_of : Question → List Kind
kinds_of q = q.program.kinds.items

abbrev pub written_trees : Question → List Tree
written_trees q = trees_of q.program.written.items

abbrev pub IsTruth : Tree → Type 0
IsTruth t = IfSome (tree_type meaning t) (λ u. is_bool_type u ≡ true)

-- a condition is a truth value
abbrev pub IsTruthFor : Form → List Tree → Type 0
IsTruthFor form.Answers ts = ⊤
IsTruthFor form.Condition ts = All IsTruth ts

-- the question is what a text asks over the columns that it reads, by the names in it, each with the
-- kind of its values and at its place; what runs is what the rules make of what is written
pub record IsAsked (f : Form) (read : List (List ℕ) → Columns) (placed : Fields → List (Option ℕ))
    (text : List ℕ) (q : Question) : Type 0 where
  pub names : List (List ℕ)
  pub named : AreNamesOf f text names
  pub columns : scope_of q ≡ (read names).fields
  pub kinds : kinds_of q ≡ (read names).kinds
  pub asked : AreAnswersOf f (scope_of q) (kinds_of q) text q.program.written.items
  pub truth : IsTruthFor f (written_trees q)
  pub places : q.places.items ≡ placed (scope_of q)
  pub optimized : AreOptimized q.program.written.items q.program.optimized.items

-- a question is there where a text is
abbrev pub AskedBy : Form → (List (List ℕ) → Columns) → (Fields → List (Option ℕ))
    → Option (Bor (List ℕ)) → Option Question → Type 0
AskedBy f read placed None None = ⊤
AskedBy f read placed (Some text) (Some q) = IsAsked f read placed text.now q
AskedBy f read placed o p = ⊥

-- the columns whose types were taken from the first rows
abbrev pub inferred_of : Query → Columns
inferred_of q = record { fields = struct_fields q.inferred; kinds = q.inferred_kinds.items }

-- the words ask the query: its columns are those that are declared, with their types, kinds and
-- places, and the others that the texts name, with the types and kinds that the first rows gave them
pub record IsQuery (words : Words) (q : Query) : Type 0 where
  pub declared : DeclaredColumns
  pub declares : DeclaredBy words.columns declared
  pub inferred : AreInferred (inferred_of q)
  pub answers : AskedBy form.Answers
      (columns_read (unplaced declared) (inferred_of q) words form.Answers)
      (places_of declared words.header) words.answers q.answers
  pub condition : AskedBy form.Condition
      (columns_read (unplaced declared) (inferred_of q) words form.Condition)
      (places_of declared words.header) words.condition q.condition
