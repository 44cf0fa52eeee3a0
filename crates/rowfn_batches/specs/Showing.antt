-- What is shown of the values of answers: of the values of a kind, texts.
use Rattle.std.specs.Prelude.{◌≡◌, ◌≢◌, ◌⊎◌, ℕ, List, length, Option, Some, None, slice_get, true}
use Rattle.std.specs.Prelude.{nat_lt, if◌then◌else◌, string_bytes}
use Rattle.vortex_errors.specs.declared.error.VortexError.TheVariants.{InvalidColumn}
use Rattle.vortex_types.specs.LogicalTypes.{text_type}
use Rattle.vortex_columns.specs.ColumnView.{ColumnView}
use Rattle.vortex_cells.specs.Cells.{cells_apart}
use Rattle.vortex_cells.specs.Fields.{column_of_fields}
use Rattle.vortex_logical.specs.declared.kind.Kind.{Kind}
use Rattle.vortex_logical.specs.declared.kind.Kind.TheVariants.{Plain}
use Rattle.vortex_logical_cells.specs.StoredTexts.{AreTextsOf, IsFirstWithout, MakeNoColumn}
use Rattle.vortex_logical_cells.specs.declared.texts.KindTexts.{KindTexts}
use Rattle.vortex_logical_cells.specs.declared.texts.KindTexts.TheVariants.{Texts, NoText}
use Rattle.vortex_interface.specs.Trees.{leaf, place}
use Rattle.vortex_expressions.specs.Items.{Tree}
use Rattle.vortex_program.specs.declared.answer.Answer.{Answer}
use Rattle.rowfn_batches.specs.Fields.{Field}
use Rattle.rowfn_batches.specs.declared.errors.StreamError.{StreamError}
use Rattle.rowfn_batches.specs.declared.errors.StreamError.TheVariants as end

-- the place of a tree that is one of the first w columns
abbrev pub lone_column : ℕ → Tree → Option ℕ
lone_column w (leaf (place p name t)) = if nat_lt p w then Some p else None
lone_column w t = None

-- a column of texts that is too long, by the answer of which it is shown
abbrev pub TellsLong : Answer → StreamError → Type 0
TellsLong a (end.TextsTooLong name) = string_bytes name ≡ string_bytes a.name
TellsLong a e = ⊥

-- an answer and its values, by their place
pub record ArePair (answers : List Answer) (values : List ColumnView) (k : ℕ) (a : Answer)
    (value : ColumnView) : Type 0 where
  pub written : slice_get answers k ≡ Some a
  pub there : slice_get values k ≡ Some value

-- the fields of n rows of w
module _ (w : ℕ) (fs : List Field) (n : ℕ) where
  -- the fields of a column as they are
  abbrev pub own_texts : ℕ → Option ColumnView
  own_texts j = column_of_fields (text_type true) (cells_apart fs w n j)

  -- of values of a kind these texts are shown: of a lone column its own fields, else their texts
  abbrev pub ShowsKind : Kind → Option ℕ → ColumnView → ColumnView → Type 0
  ShowsKind k (Some j) value shown = Some shown ≡ own_texts j
  ShowsKind k None value shown = AreTextsOf k value.rows n shown

  -- plain values are shown as they are
  abbrev pub ShowsValues : Kind → Option ℕ → ColumnView → ColumnView → Type 0
  ShowsValues Plain j value shown = shown ≡ value
  ShowsValues k j value shown = ShowsKind k j value shown

  -- row i is the first whose value has no text
  abbrev pub LacksText : Kind → Option ℕ → ColumnView → ℕ → Type 0
  LacksText Plain j value i = ⊥
  LacksText k (Some j) value i = ⊥
  LacksText k None value i = IsFirstWithout k value.rows n i

  -- the texts make no column: they are too long
  abbrev pub IsNotShown : Kind → Option ℕ → ColumnView → Type 0
  IsNotShown Plain j value = ⊥
  IsNotShown k (Some j) value = None ≡ own_texts j
  IsNotShown k None value = MakeNoColumn k value.rows InvalidColumn

  -- the same of an answer's values
  abbrev pub ShowsAnswer : Answer → ColumnView → ColumnView → Type 0
  ShowsAnswer a = ShowsValues a.kind (lone_column w a.tree)

  abbrev pub LacksAnswer : Answer → ColumnView → ℕ → Type 0
  LacksAnswer a = LacksText a.kind (lone_column w a.tree)

  abbrev pub HidesAnswer : Answer → ColumnView → Type 0
  HidesAnswer a = IsNotShown a.kind (lone_column w a.tree)

  -- the texts of an answer's values, or the first row whose value has none
  abbrev pub TextsOrRow : Answer → ColumnView → KindTexts → Type 0
  TextsOrRow a v (Texts c) = ShowsAnswer a v c
  TextsOrRow a v (NoText i) = LacksAnswer a v i

  -- why there are none: they are too long, or memory ran out
  abbrev pub IsHidden : Answer → ColumnView → StreamError → Type 0
  IsHidden a v e = (e ≡ end.OutOfMemory) ⊎ (HidesAnswer a v × TellsLong a e)

  module _ (answers : List Answer) (values : List ColumnView) where
    -- a column is shown of the values of each answer
    pub record Shows (shown : List ColumnView) : Type 0 where
      pub count : length shown ≡ length values
      pub each : (j : ℕ) (a : Answer) (v s : ColumnView) → slice_get answers j ≡ Some a
          → slice_get values j ≡ Some v → slice_get shown j ≡ Some s → ShowsAnswer a v s

    -- only the k-th column is replaced, by what is shown of it
    pub record ShowsAt (k : ℕ) (new : List ColumnView) : Type 0 where
      pub count : length new ≡ length values
      pub others : (j : ℕ) → j ≢ k → slice_get new j ≡ slice_get values j
      pub here : (a : Answer) (v s : ColumnView) → slice_get answers k ≡ Some a
          → slice_get values k ≡ Some v → slice_get new k ≡ Some s → ShowsAnswer a v s

    -- in row i a value of the k-th answer has no text
    pub record Lacks (k i : ℕ) (a : Answer) : Type 0 where
      pub value : ColumnView
      pub pair : ArePair answers values k a value
      pub lacks : LacksAnswer a value i

    -- the texts of the k-th answer are too long
    pub record Hides (k : ℕ) (e : StreamError) : Type 0 where
      pub answer : Answer
      pub value : ColumnView
      pub pair : ArePair answers values k answer value
      pub hides : HidesAnswer answer value
      pub told : TellsLong answer e
