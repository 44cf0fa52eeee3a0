-- Parts of a batch that a stream passes on.
use Rattle.std.proofs.Common.{◌≡◌, ◌∙◌, ℕ, ◌*◌, List, length, take, drop, map}
use Rattle.std.proofs.Common.{Option, Some, None, Result, ap, sym}
use Rattle.rowfn_csv.specs.declared.records.Span.{Span}
use Rattle.rowfn_batches.specs.declared.errors.StreamError.{StreamError}
use Rattle.rowfn_batches.specs.declared.header.Layout.{Layout}
use Rattle.rowfn_batches.specs.declared.stream.Stream.{Stream}
use Rattle.rowfn_batches.specs.declared.filter.Condition.{Condition}
use Rattle.rowfn_batches.specs.Fields.{Field, field_in}
use Rattle.rowfn_batches.specs.Passing.{IsRefilled}
use Rattle.rowfn_batches.specs.Skipping.{fields_from, condition_width, width_asked, ReadsRows}
use Rattle.rowfn_batches.specs.Skipping.{AreLoaded}
use Rattle.rowfn_batches.specs.Skipping.{HasPart, PassesAll}
use Rattle.rowfn_batches.proofs.FilteredRows.{Fields, field_part}

reads_same : (a b : List Field) (s t : List Span) (c : Option Condition) → a ≡ b → s ≡ t
    → ReadsRows a s c → ReadsRows b t c
reads_same a b s t None fs ss h = tt
reads_same a b s t (Some c) fs ss h = (h.0 ∙ fs, h.1 ∙ ss)

-- the fields of a part, of rows of so many
part_fields : (fields borrowed : Fields) (first tried w v : ℕ)
    → borrowed ≡ take (tried * w) (drop (first * w) fields) → w ≡ v
    → map field_in borrowed ≡ fields_from (map field_in fields) v first tried
part_fields fields borrowed first tried w v is same =
    ap (map field_in) is ∙ field_part fields (tried * w) (first * w)
    ∙ ap (λ (n : ℕ). fields_from (map field_in fields) n first tried) same

-- a part is loaded
pub has_part : {R : Type 0} (fields asked borrowed borrowed_asked : Fields) (spans part : List Span)
    (first tried w v : ℕ) (old s : Stream R) → IsRefilled old s
    → w ≡ length old.layout.places.items → v ≡ condition_width old.condition
    → borrowed ≡ take (tried * w) (drop (first * w) fields)
    → borrowed_asked ≡ take (tried * v) (drop (first * v) asked)
    → part ≡ take tried (drop first spans)
    → AreLoaded (map field_in borrowed) (map field_in borrowed_asked) part s
    → HasPart (map field_in fields) (map field_in asked) spans first tried s
has_part fields asked borrowed borrowed_asked spans part first tried w v old s kept wide asks is is_asked
    lies h =
    let wider : w ≡ length s.layout.places.items = wide
    ∙ sym (ap (λ (l : Layout). length l.places.items) kept.layout) in
    let wider_asked : v ≡ condition_width s.condition = asks ∙ sym (ap width_asked kept.condition) in
    record {
      fields = h.fields ∙ part_fields fields borrowed first tried w _ is wider;
      spans = h.spans ∙ lies;
      asked = reads_same _ _ _ _ s.condition
          (part_fields asked borrowed_asked first tried v _ is_asked wider_asked) lies h.asked;
    }

-- rows of a batch are passed on, by how they are lent
pub all_borrowed : {R : Type 0} (fields asked fs gs : List Field) (spans borrowed : List Span) (first : ℕ)
    (old now : Stream R) (before after : Option (List ℕ)) (counted count : ℕ)
    (result : Result (Unit {0}) StreamError) → fields ≡ fs → asked ≡ gs → borrowed ≡ spans
    → PassesAll fields asked borrowed first old now before after counted count result
    → PassesAll fs gs spans first old now before after counted count result
all_borrowed fields asked fs gs spans borrowed first old now before after counted count result f g s h =
    rw (← f, ← g, ← s) h
