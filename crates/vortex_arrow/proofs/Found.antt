-- The column of texts that were found, and the error where memory runs out.
use Rattle.std.specs.Borrow.{Bor}
use Rattle.std.proofs.Common.{◌≡◌, ℕ, ◌+◌, ◌<◌, ℤ, List, length, map, Option, sym, ap, ◌∙◌, subst, Result, Ok, Err}
use Rattle.std.specs.Prelude.{IsUtf8, Vec, MatchResult, IfSome}
use Rattle.std.specs.declared.alloc.Global.{Global}
use Rattle.std.proofs.lemmas.List.{length-map}
use Rattle.vortex_types.specs.LogicalTypes.{text_type}
use Rattle.vortex_types.specs.Values.{text}
use Rattle.vortex_views.specs.Collected.{HaveRoom}
use Rattle.vortex_columns.specs.ColumnView.{ColumnView}
use Rattle.vortex_columns.specs.ValidityView.{ValidityView, form_allows_null, FitsRows}
use Rattle.vortex_columns.specs.Made.{MakeBorrowedTexts, borrowed_texts, text_rows}
use Rattle.vortex_columns.specs.Stored.{made_of}
use Rattle.vortex_arrow.specs.declared.error.ValueFault.{ValueFault}
use Rattle.vortex_arrow.specs.declared.error.ArrowError.{ArrowError}
use Rattle.vortex_arrow.specs.declared.error.ArrowError.TheVariants as arrow
use Rattle.vortex_arrow.specs.Values.{offset_at, bytes_between, LieWithin}
use Rattle.vortex_arrow.specs.Columns.{values_from}
use Rattle.vortex_arrow.specs.Refusals.{OnlyMemory, RefusesPush, TellsOfBytes}
use Rattle.vortex_arrow.proofs.Collecting.{push_refused}
use Rattle.vortex_arrow.proofs.Rows.{strings_from, length_values}

module _ (n : ℕ) (lies texts : ℕ → Type 0) (faults : ℕ → ValueFault → Type 0) where
  pub memory_told : (All : Type 0) (e : ArrowError) → OnlyMemory e
      → TellsOfBytes n lies texts faults All e
  memory_told All arrow.OutOfMemory h = tt
  memory_told All arrow.TooLong h = absurd h
  memory_told All arrow.ValidityTooShort h = absurd h
  memory_told All arrow.ValuesTooShort h = absurd h
  memory_told All arrow.OffsetsTooShort h = absurd h
  memory_told All (arrow.UnexpectedNull r) h = absurd h
  memory_told All (arrow.InvalidValue r f) h = absurd h
  memory_told All (arrow.NotUtf8 r) h = absurd h

  pub found_told : (r : Result ColumnView ArrowError) (found : List (Bor (List ℕ)))
      (item : ℕ → List ℕ) (v : ValidityView) (from : ℕ) → FitsRows v n
      → ((i : ℕ) → i < n → lies i × texts i) → borrowed_texts found ≡ values_from item v from n
      → MatchResult r
      (λ c. MakeBorrowedTexts found v × (c ≡ text_rows (borrowed_texts found) v))
      (RefusesPush (MakeBorrowedTexts found v))
      → MatchResult r
      (λ c. ((i : ℕ) → i < n → lies i × texts i) × HaveRoom (values_from item v from n)
      × (c ≡ made_of (text_type (form_allows_null v.form)) v n (λ i. text (item (from + i)))))
      (TellsOfBytes n lies texts faults (HaveRoom (values_from item v from n)))
  found_told (Ok c) found item v from fits good same h = (
    good,
    subst HaveRoom same h.0.1,
    h.1 ∙ strings_from (text_type (form_allows_null v.form)) text item v from n (borrowed_texts found)
        same,
  )
  found_told (Err e) found item v from fits good same h =
      let count : length found ≡ n =
      sym (length-map found (λ (t : Bor (List ℕ)). t.now)) ∙ ap length same
      ∙ length_values item v from n in
      push_refused n lies texts faults (HaveRoom (values_from item v from n)) (MakeBorrowedTexts found v) e
      (λ room. (subst (FitsRows v) (sym count) fits, subst HaveRoom (sym same) room)) h

-- what is found of texts by offsets, of rows with that validity
abbrev pub FindsTexts : {A : Type 0} → (A → ℤ) → List A → List ℕ → ℕ → ℕ → ValidityView
    → Option (Vec (Bor (List ℕ)) Global) → Type 0
FindsTexts f offsets bytes from n v found =
    IfSome found (λ texts.
    ((i : ℕ) → i < n
    → LieWithin bytes (offset_at (map f offsets) (from + i)) (offset_at (map f offsets) (from + i + 1))
    × IsUtf8 (bytes_between bytes (offset_at (map f offsets) (from + i))
    (offset_at (map f offsets) (from + i + 1))))
    × (map (λ t. t.now) texts.items
    ≡ values_from (λ p. bytes_between bytes (offset_at (map f offsets) p)
    (offset_at (map f offsets) (p + 1))) v from n))

abbrev pub AnswersTexts : {A : Type 0} → (A → ℤ) → List A → List ℕ → ℕ → ℕ → ValidityView
    → Result (Option (Vec (Bor (List ℕ)) Global)) ArrowError → Type 0
AnswersTexts f offsets bytes from n v r =
    MatchResult r (FindsTexts f offsets bytes from n v) OnlyMemory
