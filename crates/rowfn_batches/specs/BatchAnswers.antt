-- What the rows of a batch answer, up to the first that ends the stream, and what ends it there.
use Rattle.std.specs.Prelude.{◌≡◌, ◌+◌, ◌*◌, ◌-◌, ◌^◌, ◌≤◌, min, ℕ, List, take, Option}
use Rattle.std.specs.Prelude.{Some, None, string_bytes, Vec, ⊤, get_or, option_map}
use Rattle.std.specs.declared.alloc.Global.{Global}
use Rattle.vortex_errors.specs.declared.error.VortexError.{VortexError}
use Rattle.vortex_errors.specs.Answers.{UnlessMemory}
use Rattle.vortex_types.specs.FieldNames.{field_name}
use Rattle.vortex_types.specs.LogicalTypes.{Fields, field_count, field_type}
use Rattle.vortex_types.specs.TypeOf.{struct_fields, type_of}
use Rattle.vortex_columns.specs.ColumnView.{ColumnView}
use Rattle.vortex_logical.specs.declared.kind.Kind.{Kind}
use Rattle.vortex_expressions.specs.Calls.{kind_at}
use Rattle.vortex_expressions.specs.Items.{Tree}
use Rattle.vortex_program.specs.declared.answer.Answer.{Answer}
use Rattle.vortex_program.specs.Executing.{RefusesColumnsFirst}
use Rattle.vortex_program.specs.Programs.{trees_of}
use Rattle.vortex_program.specs.Running.{AnswersTrees, FaultsFirstThere}
use Rattle.rowfn_batches.specs.declared.request.Request.{Request}
use Rattle.rowfn_batches.specs.Fields.{Field}
use Rattle.rowfn_batches.specs.Batches.{field_at, AreEven, AreColumns, IsLeftmost, IsTooLong}
use Rattle.rowfn_batches.specs.Showing.{Shows, Lacks, Hides}
use Rattle.rowfn_batches.specs.declared.showing.Shown.{Shown}
use Rattle.rowfn_batches.specs.declared.showing.Shown.TheVariants as shown
use Rattle.rowfn_batches.specs.declared.answering.BatchTask.{BatchTask}
use Rattle.rowfn_batches.specs.declared.errors.StreamError.{StreamError}
use Rattle.rowfn_batches.specs.declared.errors.StreamError.TheVariants as end

-- the number of a row, counted from 1 behind the rows before the batch; it stays at the greatest
abbrev pub row_number : ℕ → ℕ → ℕ
row_number before row = min (before + row + 1) (2 ^ 64 - 1)

-- which row of a batch a row is of those that are answered: these, or all
abbrev pub row_among : Option (List ℕ) → ℕ → ℕ
row_among None row = row
row_among (Some rows) row = get_or rows row 0

-- the number of a row that is answered
abbrev pub number_of : BatchTask → ℕ → ℕ
number_of t row = row_number t.rows_before (row_among (option_map (λ r. r.now) t.rows) row)

-- the bytes of a field, and none of a null field
abbrev pub field_told : Option (Vec ℕ Global) → Field
field_told None = None
field_told (Some bytes) = Some bytes.items

-- rows have these numbers
module _ (number : ℕ → ℕ) (row : ℕ) where
  -- the field of that row that is no value of its column, with the column's name, kind and type
  abbrev pub TellsMisfit : Fields → List Kind → ℕ → Field → StreamError → Type 0
  TellsMisfit ds ks j f (end.Misfit told column kind dtype field) =
      (told ≡ number row) × (string_bytes column ≡ field_name j ds) × (kind ≡ kind_at ks j)
      × (type_of dtype ≡ field_type j ds) × (field_told field ≡ f)
  TellsMisfit ds ks j f e = ⊥

  -- the fault of that row, with whatever text
  abbrev pub TellsFault : VortexError → StreamError → Type 0
  TellsFault fault (end.Fault told error text) = (told ≡ number row) × (error ≡ fault)
  TellsFault fault e = ⊥

  -- the value of that row that has no text, by its answer's name and kind
  abbrev pub TellsNoText : Answer → StreamError → Type 0
  TellsNoText a (end.NoText told name kind) =
      (told ≡ number row) × (string_bytes name ≡ string_bytes a.name) × (kind ≡ a.kind)
  TellsNoText a e = ⊥

-- a column whose texts are too long, by its name
abbrev pub TellsName : Fields → ℕ → StreamError → Type 0
TellsName ds j (end.TextsTooLong name) = string_bytes name ≡ field_name j ds
TellsName ds j e = ⊥

-- the trees that are asked, as they were written
abbrev pub trees_asked : Request → List Tree
trees_asked x = trees_of x.program.now.written.items

-- what rules make of them, which is what runs
abbrev pub trees_run : Request → List Tree
trees_run x = trees_of x.program.now.optimized.items

-- the columns that are declared, their kinds, and how many they are
abbrev pub scope_of : Request → Fields
scope_of x = struct_fields x.program.now.scope

abbrev pub kinds_of : Request → List Kind
kinds_of x = x.program.now.kinds.items

abbrev pub width_of : Request → ℕ
width_of x = field_count (scope_of x)

-- the answers that are asked, as they were written
abbrev pub answers_asked : Request → List Answer
answers_asked x = x.program.now.written.items

module _ (x : Request) (fs : List Field) where
  -- the fields of the first n rows
  abbrev pub first_fields : ℕ → List Field
  first_fields n = take (width_of x * n) fs

  -- the columns of the first n rows
  pub record AreFirst (n : ℕ) (cs : List ColumnView) : Type 0 where
    pub even : AreEven (scope_of x) (kinds_of x) (first_fields n) n
    pub said : AreColumns (scope_of x) (kinds_of x) (first_fields n) n (width_of x) cs

  -- each column has the values of its tree in those of the first n rows in which the tree has one:
  -- what rules make of trees may drop a fault. What is said by way of those rules is a bare fact,
  -- ∥ .. ∥₁.
  pub record AreValues (n : ℕ) (values : List ColumnView) : Type 0 where
    pub columns : List ColumnView
    pub first : AreFirst n columns
    pub mean : ∥ AnswersTrees columns n (trees_asked x) values ∥₁

  -- each answer shows the values of its tree
  pub record AreAnswers (n : ℕ) (answers : List ColumnView) : Type 0 where
    pub values : List ColumnView
    pub are : AreValues n values
    pub shows : Shows (width_of x) (first_fields n) n (answers_asked x) values answers

  -- what is shown of the first n rows; or the first of them in which a value of an answer has no
  -- text, which is reported
  abbrev pub AnswersOrLacks : (ℕ → ℕ) → ℕ → Shown → Type 0
  AnswersOrLacks number n (shown.Columns answers) = AreAnswers n answers.items
  AnswersOrLacks number n (shown.NoText i told) =
      (k : ℕ) × (values : List ColumnView) × (a : Answer) × AreValues n values
      × Lacks (width_of x) (first_fields n) n (answers_asked x) values k i a
      × TellsNoText number i a told

  -- of so many rows whose fields fit all are answered, and what ends them does; or those before the
  -- first in which a tree faults as it runs, which is reported
  pub data EndsAnswers (number : ℕ → ℕ) (fit : ℕ) (other : Option StreamError) (n : ℕ)
      (e : Option StreamError) : Type 0 where
    with_them : n ≡ fit → e ≡ other → EndsAnswers number fit other n e
    at_fault : (columns : List ColumnView) (k : ℕ) (fault : VortexError) (told : StreamError)
        → e ≡ Some told → AreFirst fit columns
        → ∥ FaultsFirstThere columns fit (trees_run x) n k fault ∥₁
        → TellsFault number n fault told
        → EndsAnswers number fit other n e

  -- of so many rows in which no tree faults all are shown, and what ends them does; or those before
  -- the first of the first m in which a value of an answer has no text, which is reported
  pub data EndsShown (number : ℕ → ℕ) (fit : ℕ) (other : Option StreamError) (n : ℕ)
      (e : Option StreamError) : Type 0 where
    with_all : n ≡ fit → e ≡ other → EndsShown number fit other n e
    at_no_text : (m k : ℕ) (values : List ColumnView) (a : Answer) (told : StreamError) → m ≤ fit
        → e ≡ Some told → AreValues m values
        → Lacks (width_of x) (first_fields m) m (answers_asked x) values k n a
        → TellsNoText number n a told → EndsShown number fit other n e

  -- both
  abbrev pub EndsRows : (ℕ → ℕ) → ℕ → Option StreamError → ℕ → Option StreamError → Type 0
  EndsRows number fit other n e =
      (faultless : ℕ) × (behind : Option StreamError)
      × EndsAnswers number fit other faultless behind × EndsShown number faultless behind n e

  -- the columns of first rows are not valid for a tree, the texts of an answer's values are too
  -- long, or memory ran out
  abbrev pub IsUnserved : StreamError → Type 0
  IsUnserved (end.Refused e) =
      UnlessMemory
      (λ e. (n : ℕ) × (columns : List ColumnView) × AreFirst n columns
      × ∥ RefusesColumnsFirst columns n (trees_asked x) e ∥₁)
      e
  IsUnserved (end.TextsTooLong name) =
      (n : ℕ) × (k : ℕ) × (values : List ColumnView) × AreValues n values
      × Hides (width_of x) (first_fields n) n (answers_asked x) values k (end.TextsTooLong name)
  IsUnserved end.OutOfMemory = ⊤
  IsUnserved e = ⊥

  -- why nothing is answered of a batch of so many rows: the texts of a column are too long, the
  -- columns are not valid for a tree, or memory ran out
  pub data IsUnanswered (count : ℕ) (e : StreamError) : Type 0 where
    too_long : (column : ℕ)
        → IsTooLong (scope_of x) (kinds_of x) (first_fields count) count column
        → TellsName (scope_of x) column e → IsUnanswered count e
    unserved : IsUnserved e → IsUnanswered count e

  -- each column has its place in a row of the input
  module _ (places : List ℕ) (number : ℕ → ℕ) (count : ℕ) (behind : Option StreamError) where
    -- so many rows have fields that fit: all of them, and the error behind the batch ends it; or
    -- those before the first that has a misfit, of which the leftmost is told
    pub data EndsFitting (n : ℕ) (e : Option StreamError) : Type 0 where
      with_batch : n ≡ count → e ≡ behind → EndsFitting n e
      at_misfit : (column : ℕ) (told : StreamError) → e ≡ Some told
          → IsLeftmost (scope_of x) (kinds_of x) (first_fields count) places n column
          → TellsMisfit number n (scope_of x) (kinds_of x) column
          (field_at fs (n * width_of x + column)) told
          → EndsFitting n e

    -- the rows of the answers, and what ends them there
    abbrev pub EndsBatch : ℕ → Option StreamError → Type 0
    EndsBatch n e =
        (fit : ℕ) × (other : Option StreamError) × EndsFitting fit other
        × EndsRows number fit other n e
