-- What is written of a batch, and what passing it on ends.
use Rattle.std.specs.Prelude.{◌≡◌, ◌-◌, ℕ, List, [], Option, Some, None, Result, Ok, Err, ⊤, length}
use Rattle.std.specs.Prelude.{◌&&◌, not, is_some, option_map, ◌++◌, ◌+◌, ◌^◌, map, take, slice_get}
use Rattle.std.specs.Prelude.{if◌then◌else◌, min, Bool, true, false, suc}
use Rattle.std.specs.Io.KnownBytes.{Appends, Keeps}
use Rattle.vortex_columns.specs.ColumnView.{ColumnView}
use Rattle.rowfn_batches.specs.declared.request.Request.{Request}
use Rattle.rowfn_csv.specs.KeptLines.{line_of}
use Rattle.rowfn_batches.specs.declared.errors.StreamError.{StreamError}
use Rattle.rowfn_batches.specs.declared.errors.StreamError.TheVariants as end
use Rattle.rowfn_batches.specs.declared.output.Output.{Output}
use Rattle.rowfn_batches.specs.declared.settings.Settings.{Settings}
use Rattle.rowfn_batches.specs.declared.stream.Stream.{Stream}
use Rattle.rowfn_batches.specs.declared.stream.Summary.{Summary}
use Rattle.rowfn_batches.specs.declared.stream.filling.Filled.{Filled}
use Rattle.rowfn_batches.specs.declared.stream.filling.Filled.TheVariants as filled
use Rattle.rowfn_batches.specs.declared.filter.Condition.{Condition}
use Rattle.rowfn_batches.specs.Fields.{Field}
use Rattle.rowfn_batches.specs.BatchAnswers.{AreAnswers, EndsBatch, row_number, row_among}
use Rattle.rowfn_batches.specs.Starts.{IsHeaded, DoesNotStart}
use Rattle.rowfn_batches.specs.Filtering.{Takes, IsLeft, rows_before}
use Rattle.rowfn_batches.specs.Outputs.{row_lines, picked_texts, picked_count, appended_lines}

-- the lines of the input of those of the first rows in which the answer is true
abbrev pub picked_lines : {R : Type 0} → Stream R → Option ColumnView → ℕ → List ℕ
picked_lines s None n = []
picked_lines s (Some top) n = picked_texts top (map (line_of s.records) (take n s.batch.spans))

-- a line of the answers for each of the first rows that are answered, behind the row's own fields
-- where these are appended
abbrev pub answer_text : {R : Type 0} → Stream R → Option (List ℕ) → List ColumnView → ℕ → List ℕ
answer_text s rows answers n =
    if s.settings.appends
    then appended_lines s.output.format
    (map (line_of s.records) s.batch.spans) rows answers n
    else row_lines s.output.format answers n

-- what is written of these rows: that, or the lines that are picked where all are answered
abbrev pub batch_text : {R : Type 0} → Stream R → Option (List ℕ) → List ColumnView → ℕ → List ℕ
batch_text s rows answers n =
    if s.settings.picks_rows && not (is_some rows)
    then picked_lines s (slice_get answers (length answers - 1)) n
    else answer_text s rows answers n

-- the first rows that are taken have those answers, and what ends them there does
pub record IsAnswered {R : Type 0} (s : Stream R) (behind : Option StreamError)
    (rows : Option (List ℕ)) (n : ℕ) (answers : List ColumnView) (e : Option StreamError)
    : Type 0 where
  pub fields : List Field
  pub count : ℕ
  pub ended : Option StreamError
  pub taken : Takes s behind fields rows count ended
  pub answered : AreAnswers s.asked fields n answers
  pub ends : EndsBatch s.asked fields s.layout.places.items
      (λ k. row_number (rows_before s) (row_among rows k)) count ended n e

-- what is read, and how, stays
pub record KeepsReading {R : Type 0} (old new : Stream R) : Type 0 where
  pub alloc : new.alloc ≡ old.alloc
  pub settings : new.settings ≡ old.settings
  pub asked : new.asked ≡ old.asked
  pub condition : new.condition ≡ old.condition
  pub records : new.records ≡ old.records
  pub layout : new.layout ≡ old.layout
  pub batch : new.batch ≡ old.batch

abbrev pub IsCleared : Output → Output → Type 0
IsCleared old new = (new.bytes.items ≡ []) × (new.format ≡ old.format)

abbrev pub IsWriting : StreamError → Type 0
IsWriting (end.Writing e) = ⊤
IsWriting e = ⊥

abbrev pub ended : Option StreamError → Result (Unit {0}) StreamError
ended None = Ok tt
ended (Some e) = Err e

-- A batch is passed on, behind what was put down before it: what is written of its first rows, and
-- what ends them is answered. Or nothing is written: the batch is not answered, or memory ran out.
-- Or the writer refused.
pub data PassesUpTo {R : Type 0} (s : Stream R) (behind : Option StreamError)
    (before after : Option (List ℕ)) (result : Result (Option StreamError) StreamError)
    : Type 0 where
  answered : (rows : Option (List ℕ)) (n : ℕ) (answers : List ColumnView) (e : Option StreamError)
      → IsAnswered s behind rows n answers e
      → Appends before after (s.output.bytes.items ++ batch_text s rows answers n)
      → result ≡ Ok e → PassesUpTo s behind before after result
  unanswered : (e : StreamError) → IsLeft s behind e → Keeps before after → result ≡ Err e
      → PassesUpTo s behind before after result
  without_memory : Keeps before after → result ≡ Err end.OutOfMemory
      → PassesUpTo s behind before after result
  unwritten : (e : StreamError) → IsWriting e → result ≡ Err e
      → PassesUpTo s behind before after result

-- what ends the first rows of a batch ends the stream
abbrev pub ended_with : Result (Option StreamError) StreamError → Result (Unit {0}) StreamError
ended_with (Ok e) = ended e
ended_with (Err e) = Err e

-- a batch is passed on, and what ends its first rows is told
abbrev pub PassesOn : {R : Type 0} → Stream R → Option StreamError → Option (List ℕ)
    → Option (List ℕ) → Result (Unit {0}) StreamError → Type 0
PassesOn s behind before after result =
    (outcome : Result (Option StreamError) StreamError)
    × PassesUpTo s behind before after outcome × (result ≡ ended_with outcome)

-- what was counted: the rows of the batch are read too
abbrev pub rows_read_behind : {R : Type 0} → Stream R → ℕ
rows_read_behind s = min (s.summary.rows_read + length s.batch.spans) (2 ^ 64 - 1)

-- what is asked by a condition, and where its columns stand
abbrev pub condition_asked : Option Condition → Option (Request × List ℕ)
condition_asked = option_map (λ c. (c.asked, c.layout.places.items))

-- another batch of the stream was read; all but what reads it stays
pub record IsRefilled {R : Type 0} (old new : Stream R) : Type 0 where
  pub settings : new.settings ≡ old.settings
  pub asked : new.asked ≡ old.asked
  pub condition : condition_asked new.condition ≡ condition_asked old.condition
  pub layout : new.layout ≡ old.layout
  pub output : new.output ≡ old.output
  pub summary : new.summary ≡ old.summary

-- how many rows are written of these rows: those that are picked where all are answered, else all
abbrev pub count_where : Option ColumnView → ℕ → ℕ
count_where None n = 0
count_where (Some top) n = picked_count top n

abbrev pub rows_put : {R : Type 0} → Stream R → Option (List ℕ) → List ColumnView → ℕ → ℕ
rows_put s rows answers n =
    if s.settings.picks_rows && not (is_some rows)
    then count_where (slice_get answers (length answers - 1)) n else n

-- the rows that are written of a batch are counted
pub record CountsWritten {R : Type 0} (s now : Stream R) (behind : Option StreamError) : Type 0
  where
    pub rows : Option (List ℕ)
    pub count : ℕ
    pub answers : List ColumnView
    pub error : Option StreamError
    pub answered : IsAnswered s behind rows count answers error
    pub counted : now.summary.rows_written
        ≡ min (s.summary.rows_written + rows_put s rows answers count) (2 ^ 64 - 1)

-- the stream behind a batch that was passed on, behind which an error ends it, if any does
pub record IsBehind {R : Type 0} (s now : Stream R) (behind : Option StreamError) : Type 0 where
  pub kept : KeepsReading s now
  pub cleared : IsCleared s.output now.output
  pub rows_read : now.summary.rows_read ≡ rows_read_behind s
  pub rows_written : CountsWritten s now behind

-- by how the reading of a batch ended: what ends the stream behind it, if anything does, whether more
-- rows may follow, and whether the input is at its end
abbrev pub error_behind : Filled → Option StreamError
error_behind (filled.Broken e) = Some e
error_behind filled.Full = None
error_behind filled.Ended = None

abbrev pub is_full : Filled → Bool
is_full filled.Full = true
is_full filled.Ended = false
is_full (filled.Broken e) = false

abbrev pub is_end : Filled → Bool
is_end filled.Ended = true
is_end filled.Full = false
is_end (filled.Broken e) = false

-- the next batch is read and passed on, and the stream goes on where the batch is full; or what ends
-- it there
pub data PassesNext {R : Type 0} (old new : Stream R) (before after : Option (List ℕ))
    (result : Result Bool StreamError) : Type 0 where
  passed_on : (s : Stream R) (how : Filled) → IsRefilled old s
      → PassesOn s (error_behind how) before after (Ok tt) → IsBehind s new (error_behind how)
      → result ≡ Ok (is_full how) → PassesNext old new before after result
  ended_there : (s : Stream R) (how : Filled) (e : StreamError) → IsRefilled old s
      → PassesOn s (error_behind how) before after (Err e) → result ≡ Err e
      → PassesNext old new before after result

-- so many full batches of a stream that were passed on one behind the other, and what the writer then
-- holds
pub data Passed {R : Type 0} (first : Stream R) (begun : Option (List ℕ))
    : ℕ → Stream R → Option (List ℕ) → Type 0 where
  none_yet : Passed first begun 0 first begun
  one_more : (n : ℕ) (was now : Stream R) (before after : Option (List ℕ))
      → Passed first begun n was before → PassesNext was now before after (Ok true)
      → Passed first begun (suc n) now after

-- a stream of that reader whose header is written, of whose rows none is read
pub record HasBegun {R : Type 0} (reader : R) (settings : Settings) (x : Request)
    (condition : Option Request) (before begun : Option (List ℕ)) (first : Stream R) : Type 0 where
  pub headed : Stream R
  pub start : IsHeaded reader settings x condition headed
  pub header : Appends before begun headed.output.bytes.items
  pub kept : KeepsReading headed first
  pub cleared : IsCleared headed.output first.output
  pub summary : first.summary ≡ headed.summary

-- A stream of that reader runs: the header of the output is written, by the header that the reader
-- gives, and then batch by batch what is written of each, in their order and each once, up to the
-- last, which is not full, or to the one that ends it; that error is returned, and nothing is written
-- after it. It is at its end, too, after as many batches as nobody reads. Where it does not start,
-- nothing is written.
pub data Flows {R : Type 0} (reader : R) (settings : Settings) (x : Request)
    (condition : Option Request) (before after : Option (List ℕ))
    (result : Result Summary StreamError) : Type 0 where
  at_end : (n : ℕ) (first was now : Stream R) (begun held : Option (List ℕ))
      → HasBegun reader settings x condition before begun first → Passed first begun n was held
      → PassesNext was now held after (Ok false) → result ≡ Ok now.summary
      → Flows reader settings x condition before after result
  at_last_turn : (first now : Stream R) (begun : Option (List ℕ))
      → HasBegun reader settings x condition before begun first → Passed first begun (2 ^ 64 - 1) now after
      → result ≡ Ok now.summary → Flows reader settings x condition before after result
  at_error : (n : ℕ) (first was now : Stream R) (begun held : Option (List ℕ)) (e : StreamError)
      → HasBegun reader settings x condition before begun first → Passed first begun n was held
      → PassesNext was now held after (Err e) → result ≡ Err e
      → Flows reader settings x condition before after result
  without_header : (headed : Stream R) (e : StreamError)
      → IsHeaded reader settings x condition headed → IsWriting e → result ≡ Err e
      → Flows reader settings x condition before after result
  not_begun : (e : StreamError) → DoesNotStart reader settings x condition e → after ≡ before
      → result ≡ Err e
      → Flows reader settings x condition before after result
