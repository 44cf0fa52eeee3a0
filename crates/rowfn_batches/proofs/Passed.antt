-- A batch that was answered: it can be put down, and is passed on where that was written.
use Rattle.std.proofs.Common.{◌≡◌, ◌∙◌, ℕ, ◌≤◌, ◌-◌, ◌+◌, ◌^◌, ◌++◌, List, Option, Some, None, Result, Ok, min}
use Rattle.std.proofs.Common.{Err}
use Rattle.std.proofs.Common.{Bool, true, false, map, sym, subst, ap, ap₂, refl, if◌then◌else◌}
use Rattle.std.proofs.Common.{length, take, arith, ◌&&◌, not, is_some, option_map}
use Rattle.std.specs.Prelude.{OnOk, IfOk, IfErr, MatchResult, slice_get}
use Rattle.std.specs.Io.KnownBytes.{Appends, Keeps}
use Rattle.vortex_columns.specs.ColumnView.{ColumnView}
use Rattle.rowfn_batches.specs.Fields.{Field, field_in}
use Rattle.rowfn_csv.specs.declared.records.Span.{Span}
use Rattle.rowfn_csv.specs.KeptLines.{line_of}
use Rattle.rowfn_batches.specs.declared.request.Request.{Request}
use Rattle.rowfn_batches.specs.declared.answering.Answered.{Answered}
use Rattle.rowfn_batches.specs.declared.errors.StreamError.{StreamError}
use Rattle.rowfn_batches.specs.declared.output.Output.{Output}
use Rattle.rowfn_batches.specs.declared.stream.Stream.{Stream}
use Rattle.rowfn_batches.specs.BatchAnswers.{AreAnswers, EndsBatch, IsUnanswered, row_number}
use Rattle.rowfn_batches.specs.BatchAnswers.{row_among}
use Rattle.rowfn_batches.specs.Filtering.{Takes, all, those, IsLeft, by_answers, without_memory}
use Rattle.rowfn_batches.specs.Filtering.{Sifts, fields_picked, rows_before}
use Rattle.rowfn_batches.specs.declared.filter.Condition.{Condition}
use Rattle.rowfn_batches.specs.declared.filter.Taken.{Taken}
use Rattle.rowfn_batches.specs.declared.errors.StreamError.TheVariants.{OutOfMemory}
use Rattle.rowfn_batches.specs.Outputs.{Adds, HaveRows, picked_texts}
use Rattle.rowfn_batches.specs.Passing.{IsAnswered, answer_text, batch_text, picked_lines}
use Rattle.rowfn_batches.specs.Passing.{PassesUpTo}
use Rattle.rowfn_batches.specs.Passing.{answered, CountsWritten, rows_put}
use Rattle.rowfn_batches.proofs.Within.{have_rows, within_batch}

-- what is written of a batch, by whether its rows are picked
module _ {R : Type 0} (s : Stream R) (rows : Option (List ℕ)) (answers : List ColumnView) (n : ℕ)
  where
    abbrev by_choice : Bool → List ℕ
    by_choice picks =
        if picks then picked_lines s (slice_get answers (length answers - 1)) n
        else answer_text s rows answers n

    pub picked_text : s.settings.picks_rows ≡ true → rows ≡ None
        → picked_lines s (slice_get answers (length answers - 1)) n ≡ batch_text s rows answers n
    picked_text chosen whole =
        sym (ap by_choice
        (ap₂ (λ (b : Bool) (o : Option (List ℕ)). b && not (is_some o)) chosen whole))

    pub plain_text : (s.settings.picks_rows && not (is_some rows)) ≡ false
        → answer_text s rows answers n ≡ batch_text s rows answers n
    plain_text other = sym (ap by_choice other)

-- lines of rows that are picked, of the column that is the last answer
pub picked_pushed : {R E : Type 0} (s : Stream R) (new : Output) (answers : List ColumnView) (n : ℕ)
    (top : ColumnView) (spans : List Span) (r : Result ℕ E)
    → OnOk r (Adds s.output new (picked_texts top (map (line_of s.records) spans)))
    → Some top ≡ slice_get answers (length answers - 1) → spans ≡ take n s.batch.spans
    → OnOk r (Adds s.output new (picked_lines s (slice_get answers (length answers - 1)) n))
picked_pushed {R} {E} s new answers n top spans r h got is =
    subst (λ (t : List ℕ). OnOk r (Adds s.output new t))
    (ap (λ (x : List Span). picked_texts top (map (line_of s.records) x)) is
    ∙ ap (λ (x : Option ColumnView). picked_lines s x n) got) h

module _ {R : Type 0} (s : Stream R) (behind : Option StreamError) (rows : Option (List ℕ)) (n : ℕ)
    (answers borrowed : List ColumnView) (e : Option StreamError)
    (is : IsAnswered s behind rows n answers e) (same : borrowed ≡ answers) where
  pub have : HaveRows n borrowed
  have =
      subst (λ (cs : List ColumnView). HaveRows n cs) (sym same)
      (have_rows s.asked is.fields n answers is.answered)

  most : n ≤ is.count
  most =
      within_batch s.asked is.fields s.layout.places.items
      (λ k. row_number (rows_before s) (row_among rows k)) is.count is.ended n e is.ends

  pub within : rows ≡ None → n ≤ length s.batch.spans
  within none = by_kind is.taken
    where
      by_kind : Takes s behind is.fields rows is.count is.ended → n ≤ length s.batch.spans
      by_kind (all unasked fs whole count ends) = omega (arith, most, count)
      by_kind (those c picked asked sifted fs some count) = absurd (cc (sym none ∙ some))

  pub passed : (borrowed_rows : Option (List ℕ)) → borrowed_rows ≡ rows
      → (put : Stream R) (before after : Option (List ℕ))
      → Adds s.output put.output (batch_text s borrowed_rows borrowed n)
      → Appends before after put.output.bytes.items → PassesUpTo s behind before after (Ok e)
  passed borrowed_rows rowed put before after adds wrote =
      answered rows n answers e is
      (subst (λ (bytes : List ℕ). Appends before after bytes)
      (adds.0
      ∙ ap₂ (λ (o : Option (List ℕ)) (cs : List ColumnView). s.output.bytes.items
      ++ batch_text s o cs n) rowed same)
      wrote)
      refl

  -- and its rows are counted
  pub counted : (borrowed_rows : Option (List ℕ)) → borrowed_rows ≡ rows → (now : Stream R) (some : ℕ)
      → some ≡ rows_put s borrowed_rows borrowed n
      → now.summary.rows_written ≡ min (s.summary.rows_written + some) (2 ^ 64 - 1)
      → CountsWritten s now behind
  counted borrowed_rows rowed now some put told = record {
    rows = rows;
    count = n;
    answers = answers;
    error = e;
    answered = is;
    counted =
        told
        ∙ ap (λ (k : ℕ). min (s.summary.rows_written + k) (2 ^ 64 - 1))
        (put ∙ ap₂ (λ (o : Option (List ℕ)) (cs : List ColumnView). rows_put s o cs n) rowed same);
  }

-- what is counted of a stream is counted of another that has written as many rows
pub counted_alike : {R : Type 0} {s now other : Stream R} {behind : Option StreamError}
    → CountsWritten s now behind → other.summary.rows_written ≡ now.summary.rows_written
    → CountsWritten s other behind
counted_alike was same = record {
  rows = was.rows;
  count = was.count;
  answers = was.answers;
  error = was.error;
  answered = was.answered;
  counted = same ∙ was.counted;
}

-- what is written nothing to stays as it is
pub kept_as_it_is : (held : Option (List ℕ)) → Keeps held held
kept_as_it_is None = tt
kept_as_it_is (Some xs) = refl

-- what is answered of rows that are taken, by what a task is asked
module _ {R : Type 0} (s : Stream R) (behind ended : Option StreamError) (fs : List Field)
    (rows : Option (List ℕ)) (count : ℕ) (taken : Takes s behind fs rows count ended)
    (x : Request) (asked : x ≡ s.asked) (given : List Field) (same : given ≡ fs)
    (places : List ℕ) (placed : places ≡ s.layout.places.items) (before : ℕ)
    (counted : before ≡ rows_before s) (these : Option (List ℕ)) (rowed : these ≡ rows) where
  pub is_answered : (a : Answered) → AreAnswers x given a.row_count a.answers.items
      → EndsBatch x given places (λ k. row_number before (row_among these k)) count ended
      a.row_count a.error
      → IsAnswered s behind rows a.row_count a.answers.items a.error
  is_answered a told ends =
      record {
        fields = fs;
        count = count;
        ended = ended;
        taken = taken;
        answered = rw (← asked, ← same) told;
        ends = rw (← asked, ← same, ← placed, ← counted, ← rowed) ends;
      }

  pub is_left : (e : StreamError) → IsUnanswered x given count e → IsLeft s behind e
  is_left e refused = by_answers fs rows count ended taken (rw (← asked, ← same) refused)

-- all rows of a batch are taken
pub taken_all : {R : Type 0} (s : Stream R) (behind : Option StreamError)
    (r : Result Taken StreamError) → s.condition ≡ None
    → IfOk r (λ t. map field_in t.fields.items ≡ s.batch.fields)
    → IfOk r (λ t. (t.rows ≡ None) × (t.row_count ≡ length s.batch.spans) × (t.error ≡ behind))
    → IfErr r (λ e. e ≡ OutOfMemory)
    → MatchResult r
    (λ t. Takes s behind (map field_in t.fields.items) (option_map (λ v. v.items) t.rows)
    t.row_count t.error)
    (IsLeft s behind)
taken_all s behind (Ok t) unasked whole told refused =
    all unasked whole (ap (λ o. option_map (λ v. v.items) o) told.0) told.1 told.2
taken_all s behind (Err e) unasked whole told refused = without_memory refused

-- the rows are taken in which a condition is true
pub taken_those : {R : Type 0} (s : Stream R) (behind ended : Option StreamError) (c : Condition)
    (before w : ℕ) (picked : List ℕ) (r : Result Taken StreamError) → s.condition ≡ Some c
    → before ≡ rows_before s → w ≡ length s.layout.places.items
    → Sifts c before behind picked ended
    → IfOk r (λ t. map field_in t.fields.items ≡ fields_picked s.batch.fields w picked)
    → IfOk r (λ t. (option_map (λ v. v.items) t.rows ≡ Some picked)
    × (t.row_count ≡ length picked) × (t.error ≡ ended))
    → IfErr r (λ e. e ≡ OutOfMemory)
    → MatchResult r
    (λ t. Takes s behind (map field_in t.fields.items) (option_map (λ v. v.items) t.rows)
    t.row_count t.error)
    (IsLeft s behind)
taken_those s behind ended c before w picked (Ok t) asked counted wide sifts whole told refused =
    those c picked asked
    (subst (λ (e : Option StreamError). Sifts c (rows_before s) behind picked e) (sym told.2)
    (subst (λ (n : ℕ). Sifts c n behind picked ended) counted sifts))
    (whole ∙ ap (λ (n : ℕ). fields_picked s.batch.fields n picked) wide) told.0 told.1
taken_those s behind ended c before w picked (Err e) asked counted wide sifts whole told refused =
    without_memory refused
