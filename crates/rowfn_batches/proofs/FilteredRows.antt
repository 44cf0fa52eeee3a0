-- Rows that are taken, one row more.
use Rattle.std.proofs.Common.{◌≡◌, ◌∙◌, ℕ, ◌+◌, ◌*◌, ◌<◌, List, [], ◌∷◌, ◌++◌, map, take, drop}
use Rattle.std.proofs.Common.{length}
use Rattle.std.proofs.Common.{get_or, ap, ap₂, sym, append-nil, Bool, if◌then◌else◌, Option}
use Rattle.std.proofs.Common.{Bor}
use Rattle.std.specs.Prelude.{filter, IfOk, Result, Ok, Err}
use Rattle.std.specs.List.{range_with_len}
use Rattle.std.proofs.lemmas.Grind.{flat_map-append}
use Rattle.std.proofs.lemmas.List.{map-append, take-map, drop-map, take_more}
use Rattle.std.proofs.lemmas.List.Elements.{filter-append}
use Rattle.vortex_columns.specs.ColumnView.{ColumnView, row}
use Rattle.rowfn_batches.specs.declared.request.Request.{Request}
use Rattle.rowfn_batches.specs.declared.answering.Answered.{Answered}
use Rattle.rowfn_batches.specs.declared.errors.StreamError.{StreamError}
use Rattle.rowfn_batches.specs.BatchAnswers.{EndsBatch}
use Rattle.rowfn_batches.specs.Fields.{Field, field_in}
use Rattle.rowfn_batches.specs.Outputs.{is_true}
use Rattle.rowfn_batches.specs.Filtering.{true_rows, fields_picked}
use Rattle.rowfn_batches.proofs.Lines.{range_more}

abbrev pub Fields : Type 0
Fields = List (Option (Bor (List ℕ)))

pub true_more : (top : ColumnView) (n : ℕ)
    → true_rows top (n + 1)
    ≡ true_rows top n ++ (if is_true (row top.rows n) then n ∷ [] else [])
true_more top n =
    ap (filter (λ (i : ℕ). is_true (row top.rows i))) (range_more n)
    ∙ filter-append (λ (i : ℕ). is_true (row top.rows i)) (range_with_len 0 n) (n ∷ [])

-- a row is looked at, and taken where the column is true in it
pub one_more : (top : ColumnView) (n : ℕ) (was now : List ℕ) (b : Bool) → was ≡ true_rows top n
    → b ≡ is_true (row top.rows n) → now ≡ was ++ (if b then n ∷ [] else [])
    → now ≡ true_rows top (n + 1)
one_more top n was now b before is added =
    added
    ∙ ap₂ (λ (xs : List ℕ) (c : Bool). xs ++ (if c then n ∷ [] else [])) before is
    ∙ sym (true_more top n)

fields_more : (fs : List Field) (w k : ℕ) (rows : List ℕ) (r : ℕ) → k < length rows
    → fields_picked fs w (take (k + 1) rows)
    ≡ fields_picked fs w (take k rows) ++ take w (drop (get_or rows k r * w) fs)
fields_more fs w k rows r lt =
    ap (fields_picked fs w) (take_more rows k r lt)
    ∙ flat_map-append (λ (i : ℕ). take w (drop (i * w) fs)) (take k rows) (get_or rows k r ∷ [])
    ∙ ap (λ (t : List Field). fields_picked fs w (take k rows) ++ t)
    (append-nil (take w (drop (get_or rows k r * w) fs)))

pub field_part : (fields : Fields) (w s : ℕ)
    → map field_in (take w (drop s fields)) ≡ take w (drop s (map field_in fields))
field_part fields w s =
    sym (take-map field_in w (drop s fields)) ∙ ap (take w) (sym (drop-map field_in s fields))

-- the fields of a row behind those of the rows before
pub next_fields : (fields was now part : Fields) (w k : ℕ) (rows : List ℕ) (d : ℕ)
    → k < length rows
    → map field_in was ≡ fields_picked (map field_in fields) w (take k rows)
    → part ≡ take w (drop (get_or rows k d * w) fields) → now ≡ was ++ part
    → map field_in now ≡ fields_picked (map field_in fields) w (take (k + 1) rows)
next_fields fields was now part w k rows d lt before is added =
    ap (map field_in) added
    ∙ map-append field_in was part
    ∙ ap₂ (λ (xs ys : List Field). xs ++ ys) before
    (ap (map field_in) is ∙ field_part fields w (get_or rows k d * w))
    ∙ sym (fields_more (map field_in fields) w k rows d lt)

-- what ends a batch, by its fields, their places and its count
pub ends_so : (x : Request) (fs gs : List Field) (ps qs : List ℕ) (count len : ℕ)
    (number : ℕ → ℕ) (behind : Option StreamError) (r : Result Answered StreamError) → fs ≡ gs
    → ps ≡ qs → count ≡ len
    → IfOk r (λ a. EndsBatch x fs ps number count behind a.row_count a.error)
    → IfOk r (λ a. EndsBatch x gs qs number len behind a.row_count a.error)
ends_so x fs gs ps qs count len number behind (Err e) f p c h = h
ends_so x fs gs ps qs count len number behind (Ok a) f p c h =
    rw (← f, ← p, ← c) h
