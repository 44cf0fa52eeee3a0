-- The bytes of texts and byte strings, one row behind another.
use Rattle.std.proofs.Common.{◌≡◌, ℕ, ◌+◌, ◌<◌, ◌≤◌, Bool, true, false, List, [], ◌++◌}
use Rattle.std.proofs.Common.{length, map, take, drop, refl, sym, ap, ◌∙◌, arith}
use Rattle.std.proofs.Common.{length-append, ℤ, pos, zero, suc, set, ◌⊎◌, inl, inr}
use Rattle.std.proofs.Math.Seq.{take-add}
use Rattle.vortex_arrow.proofs.Cells.{number_here, number_there, below_or_last}
use Rattle.std.specs.Prelude.{slice_range}
use Rattle.std.proofs.lemmas.List.{take_more, take-take, take_at, drop_at, take-append-drop}
use Rattle.std.proofs.lemmas.List.{flat_map_more, take_all}
use Rattle.std.proofs.lemmas.List.Folds.{length-flat_map-take}
use Rattle.std.proofs.lemmas.Grind.{flat_map-append}
use Rattle.std.proofs.lemmas.Slice.{between_is}
use Rattle.vortex_types.specs.LogicalTypes.{LogicalType, null_type, bool_type, integer_type}
use Rattle.vortex_types.specs.LogicalTypes.{text_type, bytes_type, struct_type, list_type}
use Rattle.vortex_types.specs.LogicalTypes.{fixed_size_list_type, map_type, is_text_type}
use Rattle.vortex_types.specs.Values.{Value, null, truth, number, text, bytes, list, is_null}
use Rattle.vortex_types.specs.Typing.{HasType}
use Rattle.vortex_columns.specs.ColumnView.{row, is_bytes_like}
use Rattle.vortex_arrow.specs.Values.{bytes_between, offset_at}
use Rattle.vortex_arrow.specs.Layouts.{offsets, bytes_at, value_at}
use Rattle.vortex_arrow.specs.Written.{value_bytes, joined}

pub joined_more : (rows : List Value) (k : ℕ) → k < length rows
    → joined (take (k + 1) rows) ≡ joined (take k rows) ++ value_bytes (row rows k)
joined_more rows k h =
    ap joined (take_more rows k null h)
    ∙ sym (flat_map_more value_bytes [] (take k rows) (row rows k))

-- the bytes of one more row pass those of all by none
pub joined_room : (rows : List Value) (k : ℕ) → k < length rows
    → length (joined (take k rows)) + length (value_bytes (row rows k)) ≤ length (joined rows)
joined_room rows k h = length-flat_map-take value_bytes rows k null h

pub joined_longer : (rows : List Value) (k : ℕ) → k < length rows
    → length (joined (take (k + 1) rows))
    ≡ length (joined (take k rows)) + length (value_bytes (row rows k))
joined_longer rows k h =
    ap length (joined_more rows k h)
    ∙ length-append (joined (take k rows)) (value_bytes (row rows k))

pub joined_all : (rows : List Value) (k : ℕ) → length rows ≤ k
    → joined (take k rows) ≡ joined rows
joined_all rows k h = ap joined (take_all k rows h)

split : (rows : List Value) (k : ℕ) → joined rows ≡ joined (take k rows) ++ joined (drop k rows)
split rows k =
    ap joined (sym (take-append-drop k rows))
    ∙ flat_map-append value_bytes (take k rows) (drop k rows)

-- the bytes between two ends are the row's
pub between_joined : (rows : List Value) (all : List ℕ) (k : ℕ) → k < length rows
    → take (length (joined rows)) all ≡ joined rows
    → slice_range all (length (joined (take k rows))) (length (joined (take (k + 1) rows)))
    ≡ value_bytes (row rows k)
between_joined rows all k h is =
    let a = length (joined (take k rows)) in
    let b = length (joined (take (k + 1) rows)) in
    let le : b ≤ length (joined rows) = omega (arith, joined_room rows k h, joined_longer rows k h)
    in
    between_is all a b
    ∙ ap (drop a)
    (sym (take-take b (length (joined rows)) all le)
    ∙ ap (take b) (is ∙ split rows (k + 1))
    ∙ take_at (joined (take (k + 1) rows)) (joined (drop (k + 1) rows)) b refl
    ∙ joined_more rows k h)
    ∙ drop_at (joined (take k rows)) (value_bytes (row rows k)) a refl

-- the same by offsets
pub bytes_of_row : (rows : List Value) (t : Bool) (os : List ℤ) (all : List ℕ) (k : ℕ)
    → k < length rows → take (length (joined rows)) all ≡ joined rows
    → ((i : ℕ) → i ≤ length rows → offset_at os i ≡ pos (length (joined (take i rows))))
    → bytes_at (offsets t os all) k ≡ value_bytes (row rows k)
bytes_of_row rows t os all k h is os_are =
    (λ i. bytes_between all (os_are k (omega arith) i) (os_are (k + 1) (omega arith) i))
    ∙ between_joined rows all k h is

-- a value of a type of texts or of byte strings is told by its bytes
pub told_by_bytes : (t : LogicalType) (v : Value) (os : List ℤ) (all : List ℕ) (k : ℕ)
    → is_bytes_like t ≡ true → HasType t v → bytes_at (offsets (is_text_type t) os all) k
    ≡ value_bytes v → is_null v ≡ false → v ≡ value_at (offsets (is_text_type t) os all) k
told_by_bytes (text_type n) (text bs) os all k like h e valid = ap text (sym e)
told_by_bytes (text_type n) null os all k like h e valid = absurd (cc)
told_by_bytes (text_type n) (truth b) os all k like h e valid = absurd h
told_by_bytes (text_type n) (number z) os all k like h e valid = absurd h
told_by_bytes (text_type n) (bytes bs) os all k like h e valid = absurd h
told_by_bytes (text_type n) (list vs) os all k like h e valid = absurd h
told_by_bytes (bytes_type n) (bytes bs) os all k like h e valid = ap bytes (sym e)
told_by_bytes (bytes_type n) null os all k like h e valid = absurd (cc)
told_by_bytes (bytes_type n) (truth b) os all k like h e valid = absurd h
told_by_bytes (bytes_type n) (number z) os all k like h e valid = absurd h
told_by_bytes (bytes_type n) (text bs) os all k like h e valid = absurd h
told_by_bytes (bytes_type n) (list vs) os all k like h e valid = absurd h
told_by_bytes null_type v os all k like h e valid = absurd (cc)
told_by_bytes (bool_type n) v os all k like h e valid = absurd (cc)
told_by_bytes (integer_type p n) v os all k like h e valid = absurd (cc)
told_by_bytes (struct_type fs n) v os all k like h e valid = absurd (cc)
told_by_bytes (list_type t n) v os all k like h e valid = absurd (cc)
told_by_bytes (fixed_size_list_type t s n) v os all k like h e valid = absurd (cc)
told_by_bytes (map_type kt vt n) v os all k like h e valid = absurd (cc)

module _ (rows : List Value) (k : ℕ) (within : k < length rows) (v : List ℕ)
    (v_is : v ≡ value_bytes (row rows k)) (end : ℕ)
    (end_is : end ≡ length (joined (take k rows))) where
  -- one more row's bytes are written
  pub end_more : end + length v ≡ length (joined (take (k + 1) rows))
  end_more = omega (arith, joined_longer rows k within, ap length v_is, end_is)

  pub end_within : end + length v ≤ length (joined rows)
  end_within = omega (arith, joined_room rows k within, ap length v_is, end_is)

  pub bytes_more : (old new : List ℕ) → take end old ≡ joined (take k rows)
      → take end new ≡ take end old → take (length v) (drop end new) ≡ v
      → take (end + length v) new ≡ joined (take (k + 1) rows)
  bytes_more old new so_far before here =
      take-add end (length v) new
      ∙ (λ j. (before ∙ so_far) j ++ (here ∙ v_is) j)
      ∙ sym (joined_more rows k within)

-- the offset of the first row is zero
pub offset_first : {A : Type 0} (f : A → ℤ) (xs : List A) (y : A) (rows : List Value)
    → 0 < length xs → f y ≡ pos 0 → (k : ℕ) → k ≤ 0
    → offset_at (map f (set xs 0 y)) k ≡ pos (length (joined (take k rows)))
offset_first f xs y rows within e zero le = number_here f xs 0 y within ∙ e
offset_first f xs y rows within e (suc k) le = absurd (omega arith)

-- that of the next is where one more row ends
module _ {A : Type 0} (f : A → ℤ) (xs : List A) (y : A) (rows : List Value) (i : ℕ)
    (within : i + 1 < length xs)
    (so_far : (k : ℕ) → k ≤ i
    → offset_at (map f xs) k ≡ pos (length (joined (take k rows))))
    (next : f y ≡ pos (length (joined (take (i + 1) rows)))) where
  offset_by : (k : ℕ) → (k < i + 1) ⊎ (k ≡ i + 1)
      → offset_at (map f (set xs (i + 1) y)) k ≡ pos (length (joined (take k rows)))
  offset_by k (inl lt) = number_there f xs (i + 1) y within k lt ∙ so_far k (omega (arith, lt))
  offset_by k (inr is) =
      ap (λ m. offset_at (map f (set xs (i + 1) y)) m) is
      ∙ number_here f xs (i + 1) y within
      ∙ next
      ∙ ap (λ m. pos (length (joined (take m rows)))) (sym is)

  pub offset_more : (k : ℕ) → k ≤ i + 1
      → offset_at (map f (set xs (i + 1) y)) k ≡ pos (length (joined (take k rows)))
  offset_more k le = offset_by k (below_or_last k (i + 1) (omega (arith, le)))
