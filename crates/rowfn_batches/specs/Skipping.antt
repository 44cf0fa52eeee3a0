-- How a stream goes on behind rows that are refused.
use Rattle.std.specs.Prelude.{◌≡◌, ◌+◌, ◌*◌, ◌-◌, ◌^◌, ◌<◌, ◌≤◌, min, ℕ, List, [], length, take}
use Rattle.std.specs.Prelude.{drop}
use Rattle.std.specs.Prelude.{Option, Some, None, Result, Ok, Err, Bool, true, false, not, ⊤, ◌⊎◌}
use Rattle.std.specs.Prelude.{suc}
use Rattle.rowfn_csv.specs.declared.records.Span.{Span}
use Rattle.rowfn_batches.specs.declared.request.Request.{Request}
use Rattle.rowfn_batches.specs.declared.errors.StreamError.{StreamError}
use Rattle.rowfn_batches.specs.declared.errors.StreamError.TheVariants as end
use Rattle.rowfn_batches.specs.declared.settings.Settings.{Settings}
use Rattle.rowfn_batches.specs.declared.stream.Stream.{Stream}
use Rattle.rowfn_batches.specs.declared.stream.Summary.{Summary}
use Rattle.rowfn_batches.specs.declared.stream.filling.Filled.{Filled}
use Rattle.rowfn_batches.specs.declared.filter.Condition.{Condition}
use Rattle.rowfn_batches.specs.Endings.{row_left_out}
use Rattle.rowfn_batches.specs.Fields.{Field}
use Rattle.rowfn_batches.specs.Passing.{PassesUpTo, IsBehind, KeepsReading, IsCleared, IsRefilled}
use Rattle.rowfn_batches.specs.Passing.{Flows}
use Rattle.rowfn_batches.specs.Passing.{HasBegun, IsWriting, condition_asked, CountsWritten}
use Rattle.rowfn_batches.specs.Passing.{error_behind, is_end}
use Rattle.rowfn_batches.specs.declared.refusals.RefusedRows.{RefusedRows}
use Rattle.rowfn_batches.specs.declared.refusals.RefusedRows.TheVariants as refused
use Rattle.rowfn_batches.specs.Parts.{next_row}
use Rattle.rowfn_batches.specs.Refusals.{one_more_counted, IsUntold}
use Rattle.rowfn_batches.specs.Starts.{IsHeaded, DoesNotStart}
use Rattle.rowfn_batches.specs.Filtering.{rows_before}

-- the row at that place, behind so many rows, is refused, and no other row has its number
pub record IsPlace (before place : ℕ) (e : StreamError) : Type 0 where
  pub number : ℕ
  pub told : row_left_out e ≡ Some number
  pub behind : number ≡ before + place + 1
  pub own : number < 2 ^ 64 - 1

-- so many rows were read then, up to the one at a place of the batch
abbrev pub rows_read_up_to : {R : Type 0} → Stream R → ℕ → ℕ
rows_read_up_to s place = one_more_counted (min (s.summary.rows_read + place) (2 ^ 64 - 1))

-- the stream behind the row at that place of its batch, and those before it
pub record IsPast {R : Type 0} (s now : Stream R) (place : ℕ) : Type 0 where
  pub kept : KeepsReading s now
  pub cleared : IsCleared s.output now.output
  pub rows_read : now.summary.rows_read ≡ rows_read_up_to s place
  pub rows_written : CountsWritten s now None

-- why a batch ends a stream that goes on behind rows that are refused
abbrev pub EndsTold : Result (Option StreamError) StreamError → StreamError → Type 0
EndsTold (Err told) e = e ≡ told
EndsTold (Ok (Some told)) e = (e ≡ told) ⊎ IsUntold e
EndsTold (Ok None) e = ⊥

-- The rows of a batch are passed on: all of them, or those before one that is refused, whose
-- refusal
-- is counted, and whose place is answered. Or the stream ends there.
pub data PassesTold {R : Type 0} (s now : Stream R) (before after : Option (List ℕ))
    (counted count : ℕ) (result : Result (Option ℕ) StreamError) : Type 0 where
  whole : PassesUpTo s None before after (Ok None) → IsBehind s now None → count ≡ counted
      → result ≡ Ok None → PassesTold s now before after counted count result
  up_to_one : (e : StreamError) (place : ℕ) → PassesUpTo s None before after (Ok (Some e))
      → IsPlace (rows_before s) place e → IsPast s now place → count ≡ one_more_counted counted
      → result ≡ Ok (Some place) → PassesTold s now before after counted count result
  ends : (outcome : Result (Option StreamError) StreamError) (e : StreamError)
      → PassesUpTo s None before after outcome → EndsTold outcome e → result ≡ Err e
      → PassesTold s now before after counted count result

-- of rows of so many fields those of so many rows from one on
abbrev pub fields_from : List Field → ℕ → ℕ → ℕ → List Field
fields_from fs width first count = take (count * width) (drop (first * width) fs)

-- the fields that a condition reads
abbrev pub fields_asked : Option Condition → List Field
fields_asked None = []
fields_asked (Some c) = c.batch.fields

-- how many of a row those are, by what is asked by the condition
abbrev pub width_asked : Option (Request × List ℕ) → ℕ
width_asked None = 0
width_asked (Some asked) = length asked.1

abbrev pub condition_width : Option Condition → ℕ
condition_width c = width_asked (condition_asked c)

-- a condition, if there is one, reads these fields of rows that lie there
abbrev pub ReadsRows : List Field → List Span → Option Condition → Type 0
ReadsRows fs lines None = ⊤
ReadsRows fs lines (Some c) = (c.batch.fields ≡ fs) × (c.batch.spans ≡ lines)

-- the batch has these rows
pub record AreLoaded {R : Type 0} (fs gs : List Field) (lines : List Span) (s : Stream R)
    : Type 0 where
  pub fields : s.batch.fields ≡ fs
  pub spans : s.batch.spans ≡ lines
  pub asked : ReadsRows gs lines s.condition

-- rows of a batch, by their fields, those that the condition reads, and where they lie
module _ {R : Type 0} (fs gs : List Field) (lines : List Span) where
  -- the batch has so many of them, from one on
  abbrev pub HasPart : ℕ → ℕ → Stream R → Type 0
  HasPart first tried s =
      AreLoaded (fields_from fs (length s.layout.places.items) first tried)
      (fields_from gs (condition_width s.condition) first tried) (take tried (drop first lines)) s

  -- so many of them, from one on, are passed on, but for the first that is refused
  pub data PassesPart (first tried : ℕ) (old now : Stream R) (before after : Option (List ℕ))
      (counted count : ℕ) (result : Result (Option ℕ) StreamError) : Type 0 where
    loaded : (s : Stream R) → IsRefilled old s → HasPart first tried s
        → PassesTold s now before after counted count result
        → PassesPart first tried old now before after counted count result
    not_loaded : after ≡ before → result ≡ Err end.OutOfMemory
        → PassesPart first tried old now before after counted count result

  -- they are passed on from one on, part by part, each behind the other or behind the row that was
  -- refused there: those up to another, what the writer then holds, how many were refused, and how
  -- many were tried
  pub data PassesParts (first : ℕ) (old : Stream R) (before : Option (List ℕ)) (counted : ℕ)
      : ℕ → Stream R → Option (List ℕ) → ℕ → ℕ → Type 0 where
    no_part : PassesParts first old before counted first old before counted 0
    one_part : (next tried : ℕ) (was now : Stream R) (held after : Option (List ℕ)) (some more : ℕ)
        (place : Option ℕ) (total : ℕ)
        → PassesParts first old before counted next was held some total
        → tried + next ≤ length lines
        → PassesPart next tried was now held after some more (Ok place)
        → PassesParts first old before counted (next_row (length lines) next tried place) now after
        more (total + tried)

  -- all of them are, from one on, where no more than twice as many are tried; or a part of them
  -- ends
  -- the stream
  pub data PassesAll (first : ℕ) (old now : Stream R) (before after : Option (List ℕ))
      (counted count : ℕ) (result : Result (Unit {0}) StreamError) : Type 0 where
    all_parts : (next total : ℕ) → PassesParts first old before counted next now after count total
        → length lines ≤ next → total ≤ 2 * (length lines - first) → result ≡ Ok tt
        → PassesAll first old now before after counted count result
    ends_in_part : (next tried : ℕ) (was : Stream R) (held : Option (List ℕ)) (some total : ℕ)
        (e : StreamError) → PassesParts first old before counted next was held some total
        → PassesPart next tried was now held after some count (Err e) → result ≡ Err e
        → PassesAll first old now before after counted count result

-- the rows of the batch from one on are passed on, but for those that are refused
pub data PassesRest {R : Type 0} (first : ℕ) (old now : Stream R) (before after : Option (List ℕ))
    (counted count : ℕ) (result : Result (Unit {0}) StreamError) : Type 0 where
  rest : (s : Stream R) → IsRefilled old s
      → PassesAll old.batch.fields (fields_asked old.condition) old.batch.spans first s now before
      after counted count result
      → PassesRest first old now before after counted count result
  no_rest : after ≡ before → result ≡ Err end.OutOfMemory
      → PassesRest first old now before after counted count result

-- the batch is passed on, but for the rows that are refused
pub data PassesBatch {R : Type 0} (s now : Stream R) (before after : Option (List ℕ))
    (counted count : ℕ) (result : Result (Unit {0}) StreamError) : Type 0 where
  at_once : PassesTold s now before after counted count (Ok None) → result ≡ Ok tt
      → PassesBatch s now before after counted count result
  but_for : (mid : Stream R) (place : ℕ) (held : Option (List ℕ)) (some : ℕ)
      → PassesTold s mid before held counted some (Ok (Some place))
      → PassesRest (one_more_counted place) mid now held after some count result
      → PassesBatch s now before after counted count result
  ends_at_once : (e : StreamError) → PassesTold s now before after counted count (Err e)
      → result ≡ Err e → PassesBatch s now before after counted count result

-- what stands behind a batch and is no row is refused, which is counted; or it ends the stream
pub data PassesMisshapen {R : Type 0} (old now : Stream R) (e : StreamError) (counted count : ℕ)
    (result : Result (Unit {0}) StreamError) : Type 0 where
  left_out : (row : ℕ) → row_left_out e ≡ Some row → KeepsReading old now
      → now.output ≡ old.output
      → now.summary.rows_read ≡ one_more_counted old.summary.rows_read
      → count ≡ one_more_counted counted → result ≡ Ok tt
      → PassesMisshapen old now e counted count result
  ends_with_it : row_left_out e ≡ None → result ≡ Err e
      → PassesMisshapen old now e counted count result
  not_told : (f : StreamError) → IsUntold f → result ≡ Err f
      → PassesMisshapen old now e counted count result

-- what stands behind a batch, if anything does
abbrev pub PassesBehind : {R : Type 0} → Stream R → Stream R → Option StreamError → ℕ → ℕ
    → Result (Unit {0}) StreamError → Type 0
PassesBehind old now None counted count result =
    (now ≡ old) × (count ≡ counted) × (result ≡ Ok tt)
PassesBehind old now (Some e) counted count result = PassesMisshapen old now e counted count result

-- the next batch is read and passed on, but for the rows that are refused, and the stream goes on
-- unless the input is at its end; or what ends it there
pub data PassesNextTold {R : Type 0} (old now : Stream R) (before after : Option (List ℕ))
    (counted count : ℕ) (result : Result Bool StreamError) : Type 0 where
  batch_and_behind : (s mid : Stream R) (how : Filled) (some : ℕ)
      → IsRefilled old s → PassesBatch s mid before after counted some (Ok tt)
      → PassesBehind mid now (error_behind how) some count (Ok tt) → result ≡ Ok (not (is_end how))
      → PassesNextTold old now before after counted count result
  ends_in_batch : (s : Stream R) (e : StreamError) → IsRefilled old s
      → PassesBatch s now before after counted count (Err e) → result ≡ Err e
      → PassesNextTold old now before after counted count result
  ends_behind : (s mid : Stream R) (how : Filled) (some : ℕ) (e : StreamError)
      → IsRefilled old s → PassesBatch s mid before after counted some (Ok tt)
      → PassesBehind mid now (error_behind how) some count (Err e) → result ≡ Err e
      → PassesNextTold old now before after counted count result
  lines_unwritten : (s mid : Stream R) (how : Filled) (some : ℕ) (e : StreamError)
      → IsRefilled old s → PassesBatch s mid before after counted some (Ok tt)
      → PassesBehind mid now (error_behind how) some count (Ok tt) → IsUntold e → result ≡ Err e
      → PassesNextTold old now before after counted count result

-- so many batches of a stream that were passed on one behind the other, none of them the input's
-- last, but for the rows that are refused, what the writer then holds, and how many were refused
pub data PassedBut {R : Type 0} (first : Stream R) (begun : Option (List ℕ)) (counted : ℕ)
    : ℕ → Stream R → Option (List ℕ) → ℕ → Type 0 where
  none_yet : PassedBut first begun counted 0 first begun counted
  one_more : (n : ℕ) (was now : Stream R) (held after : Option (List ℕ)) (some more : ℕ)
      → PassedBut first begun counted n was held some
      → PassesNextTold was now held after some more (Ok true)
      → PassedBut first begun counted (suc n) now after more

-- A stream of that reader runs, and skips rows that are refused: the header of the output is written,
-- by the header that the reader gives, and then batch by batch, up to the input's last, what is
-- written of each without those rows, in their order; each of them is counted. Or what ends it in a
-- batch is returned, and nothing is written after it. It is at its end, too, after as many batches as
-- nobody reads. Where it does not start, nothing is written, and none is counted.
pub data FlowsOn {R : Type 0} (reader : R) (settings : Settings) (x : Request)
    (condition : Option Request) (before after : Option (List ℕ)) (counted count : ℕ)
    (result : Result Summary StreamError) : Type 0 where
  at_end : (n : ℕ) (first was now : Stream R) (begun held : Option (List ℕ)) (some : ℕ)
      → HasBegun reader settings x condition before begun first
      → PassedBut first begun counted n was held some
      → PassesNextTold was now held after some count (Ok false) → result ≡ Ok now.summary
      → FlowsOn reader settings x condition before after counted count result
  at_last_turn : (first now : Stream R) (begun : Option (List ℕ))
      → HasBegun reader settings x condition before begun first
      → PassedBut first begun counted (2 ^ 64 - 1) now after count → result ≡ Ok now.summary
      → FlowsOn reader settings x condition before after counted count result
  at_error : (n : ℕ) (first was now : Stream R) (begun held : Option (List ℕ)) (some : ℕ)
      (e : StreamError)
      → HasBegun reader settings x condition before begun first
      → PassedBut first begun counted n was held some
      → PassesNextTold was now held after some count (Err e) → result ≡ Err e
      → FlowsOn reader settings x condition before after counted count result
  without_header : (headed : Stream R) (e : StreamError)
      → IsHeaded reader settings x condition headed → IsWriting e → count ≡ counted
      → result ≡ Err e
      → FlowsOn reader settings x condition before after counted count result
  not_begun : (e : StreamError) → DoesNotStart reader settings x condition e → after ≡ before
      → count ≡ counted → result ≡ Err e
      → FlowsOn reader settings x condition before after counted count result

-- A stream runs, up to the first row that is refused, or past those that are, as they are to end it or
-- to be skipped.
abbrev pub Runs : {R E : Type 0} → R → Settings → Request → Option Request → Option (List ℕ)
    → Option (List ℕ) → RefusedRows E → RefusedRows E → Result Summary StreamError → Type 0
Runs reader settings x condition before after refused.End refused.End result =
    Flows reader settings x condition before after result
Runs reader settings x condition before after (refused.Skip old) (refused.Skip new) result =
    FlowsOn reader settings x condition before after old.count new.count result
Runs reader settings x condition before after refused.End (refused.Skip new) result = ⊥
Runs reader settings x condition before after (refused.Skip old) refused.End result = ⊥
