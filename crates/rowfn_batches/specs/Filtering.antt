-- The rows of a batch that are answered: all, or those in which a condition is true.
use Rattle.std.specs.Prelude.{◌≡◌, ℕ, ◌+◌, ◌*◌, ◌-◌, ◌^◌, min, List, [], ◌∷◌, filter, take, drop}
use Rattle.std.specs.Prelude.{Option, Some, None, length}
use Rattle.std.specs.List.{flat_map, range_with_len}
use Rattle.vortex_columns.specs.ColumnView.{ColumnView, row}
use Rattle.rowfn_batches.specs.declared.errors.StreamError.{StreamError}
use Rattle.rowfn_batches.specs.declared.errors.StreamError.TheVariants as end
use Rattle.rowfn_batches.specs.declared.filter.Condition.{Condition}
use Rattle.rowfn_batches.specs.declared.stream.Stream.{Stream}
use Rattle.rowfn_batches.specs.Fields.{Field}
use Rattle.rowfn_batches.specs.BatchAnswers.{AreAnswers, EndsBatch, IsUnanswered, row_number}
use Rattle.rowfn_batches.specs.Outputs.{is_true}

-- the first rows in which a column is true
abbrev pub true_rows : ColumnView → ℕ → List ℕ
true_rows top n = filter (λ i. is_true (row top.rows i)) (range_with_len 0 n)

-- those in which the first answer is
abbrev pub rows_picked : List ColumnView → ℕ → List ℕ
rows_picked [] n = []
rows_picked (top ∷ answers) n = true_rows top n

-- the fields of these rows, of rows of w
abbrev pub fields_picked : List Field → ℕ → List ℕ → List Field
fields_picked fs w rows = flat_map (λ i. take w (drop (i * w) fs)) rows

-- of the rows of its batch, behind so many, a condition is true in these: up to the first in which
-- it faults, or of which a field does not fit, and that ends them
pub record Sifts (c : Condition) (before : ℕ) (behind : Option StreamError) (rows : List ℕ)
    (e : Option StreamError) : Type 0 where
  pub count : ℕ
  pub truths : List ColumnView
  pub answered : AreAnswers c.asked c.batch.fields count truths
  pub ends : EndsBatch c.asked c.batch.fields c.layout.places.items (row_number before)
      (length c.batch.spans) behind count e
  pub picked : rows ≡ rows_picked truths count

-- how many rows stand before the batch, those before the input among them; it stays at the greatest
abbrev pub rows_before : {R : Type 0} → Stream R → ℕ
rows_before s = min (s.settings.rows_before + s.summary.rows_read) (2 ^ 64 - 1)

-- Rows of the batch are taken, with their fields and what ends them: all of them, or those in which
-- the condition is true.
pub data Takes {R : Type 0} (s : Stream R) (behind : Option StreamError) (fs : List Field)
    (rows : Option (List ℕ)) (count : ℕ) (e : Option StreamError) : Type 0 where
  all : s.condition ≡ None → fs ≡ s.batch.fields → rows ≡ None → count ≡ length s.batch.spans
      → e ≡ behind → Takes s behind fs rows count e
  those : (c : Condition) (picked : List ℕ) → s.condition ≡ Some c
      → Sifts c (rows_before s) behind picked e
      → fs ≡ fields_picked s.batch.fields (length s.layout.places.items) picked
      → rows ≡ Some picked → count ≡ length picked → Takes s behind fs rows count e

-- why no row is answered: the condition of none is, or those that are taken are not, or memory ran
-- out
pub data IsLeft {R : Type 0} (s : Stream R) (behind : Option StreamError) (e : StreamError)
    : Type 0 where
  by_condition : (c : Condition) → s.condition ≡ Some c
      → IsUnanswered c.asked c.batch.fields (length c.batch.spans) e → IsLeft s behind e
  by_answers : (fs : List Field) (rows : Option (List ℕ)) (count : ℕ) (ended : Option StreamError)
      → Takes s behind fs rows count ended → IsUnanswered s.asked fs count e
      → IsLeft s behind e
  without_memory : e ≡ end.OutOfMemory → IsLeft s behind e
