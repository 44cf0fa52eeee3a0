-- Indices of the elements of lists of one size, and items gathered from indices.
use Rattle.std.proofs.Common.{◌≡◌, ℕ, zero, suc, ◌+◌, ◌*◌, ◌<◌, ◌≤◌, ℤ, pos, Bool, false, List, []}
use Rattle.std.proofs.Common.{◌∷◌}
use Rattle.std.proofs.Common.{◌++◌}
use Rattle.std.proofs.Common.{map, length, refl, sym, ap, ◌∙◌, subst, arith, take, drop}
use Rattle.std.specs.Prelude.{slice_index, slice_index_or, All}
use Rattle.std.specs.List.{range_with_len}
use Rattle.std.proofs.lemmas.List.{get_or-map, length-map, length-append, get_or_append_left}
use Rattle.std.proofs.lemmas.List.{get_or-append-add, get_or_default, same_lists, map-append}
use Rattle.std.proofs.lemmas.List.{take_more, append_assoc, append-nil, map-id}
use Rattle.std.proofs.lemmas.List.Elements.{All-nil, All-append, All-head, All-tail}
use Rattle.std.proofs.lemmas.List.FromFn.{length-range_with_len, get_or-range_with_len}
use Rattle.std.proofs.lemmas.List.FromFn.{map-range_with_len_more}
use Rattle.vortex_views.proofs.Gathering.{map_gathered}
use Rattle.std.proofs.Math.Nat.{mul-suc}
use Rattle.vortex_bits.specs.Rows.{AreRows}
use Rattle.vortex_types.specs.Values.{Value, null, list, values_of}
use Rattle.vortex_columns.specs.ColumnView.{row, part}
use Rattle.vortex_columns.specs.Taken.{element_places}
use Rattle.vortex_columns.proofs.ListParts.{length_part, part_row}
use Rattle.vortex_columns.proofs.StoredRows.{one_more_fits}

-- a property of each item holds for each gathered item
pub all_gathered : {A : Type 0} (P : A → Type 0) (items : List A) (e : A) (places : List ℕ)
    → All (λ i. i < length items) places → All P items
    → All P (map (λ i. slice_index_or items i e) places)
all_gathered P items e places within all k d h =
    let here : k < length places =
    omega (arith, h, length-map places (λ i. slice_index_or items i e)) in
    subst P (sym (get_or-map (λ i. slice_index_or items i e) places k 0 d here))
    (all (slice_index places k) e (within k 0 here))

-- one bit for each index is the bits at the indices
pub bits_at_places : (bits out : List Bool) (places : List ℕ)
    → AreRows (length places) (λ i. slice_index_or bits (slice_index places i) false) out
    → out ≡ map (λ i. slice_index_or bits i false) places
bits_at_places bits out places h =
    same_lists out (map (λ i. slice_index_or bits i false) places)
    (h.count ∙ sym (length-map places (λ i. slice_index_or bits i false)))
    (λ k d b.
    let here : k < length places = omega (arith, h.count, b) in
    get_or_default out k d false b ∙ h.each k here
    ∙ sym (get_or-map (λ i. slice_index_or bits i false) places k 0 d here))

-- a property at each index holds at a loop's index
pub at_place : {C : Type 0} (P : ℕ → Type 0) (f : C → ℕ) (places : List C) (i : ℕ) (p : C)
    → All P (map f places) → i < length places → p ≡ slice_index_or places i p → P (f p)
at_place P f places i p h b is =
    subst P (get_or-map f places i p 0 b ∙ ap f (sym is))
    (h i 0 (omega (arith, length-map places f, b)))

pub length_element_places : (size : ℕ) (places : List ℕ)
    → length (element_places size places) ≡ size * length places
length_element_places size [] = omega arith
length_element_places size (p ∷ ps) =
    omega (
      arith,
      length-append (range_with_len (size * p) size) (element_places size ps),
      length-range_with_len (size * p) size,
      length_element_places size ps,
      mul-suc size (length ps),
    )

pub element_place : (size : ℕ) (places : List ℕ) (j k : ℕ) → j < length places → k < size
    → slice_index (element_places size places) (size * j + k) ≡ size * slice_index places j + k
element_place size [] j k h b = absurd (omega arith)
element_place size (p ∷ ps) zero k h b =
    let here : size * 0 + k ≡ k = omega arith in
    ap (slice_index (element_places size (p ∷ ps))) here
    ∙ get_or_append_left (range_with_len (size * p) size) (element_places size ps) 0 k
    (omega (arith, length-range_with_len (size * p) size, b))
    ∙ get_or-range_with_len (size * p) size k 0 b
element_place size (p ∷ ps) (suc j) k h b =
    let here : size * suc j + k ≡ length (range_with_len (size * p) size) + (size * j + k) =
    omega (arith, mul-suc size j, length-range_with_len (size * p) size) in
    ap (slice_index (element_places size (p ∷ ps))) here
    ∙ get_or-append-add (range_with_len (size * p) size) (element_places size ps) (size * j + k) 0
    ∙ element_place size ps j k (omega arith) b

pub element_places_within : (size : ℕ) (places : List ℕ) (n count : ℕ) → All (λ p. p < n) places
    → count ≡ size * n → All (λ i. i < count) (element_places size places)
element_places_within size [] n count h e = All-nil (λ i. i < count)
element_places_within size (p ∷ ps) n count h e =
    let fits : size * p + size ≤ size * n =
    one_more_fits size p n (All-head (λ q. q < n) p ps h) in
    All-append (λ i. i < count) (range_with_len (size * p) size) (element_places size ps)
    (λ k d b.
    let here : k < size = omega (arith, b, length-range_with_len (size * p) size) in
    omega (arith, get_or-range_with_len (size * p) size k d here, here, fits, e))
    (element_places_within size ps n count (All-tail (λ q. q < n) p ps h) e)

-- the same where each list's range is known to be within the elements
pub element_places_lie : (size : ℕ) (places : List ℕ) (count : ℕ)
    → All (λ p. size * p + size ≤ count) places → All (λ i. i < count) (element_places size places)
element_places_lie size [] count h = All-nil (λ i. i < count)
element_places_lie size (p ∷ ps) count h =
    let fits : size * p + size ≤ count = All-head (λ q. size * q + size ≤ count) p ps h in
    All-append (λ i. i < count) (range_with_len (size * p) size) (element_places size ps)
    (λ k d b.
    let here : k < size = omega (arith, b, length-range_with_len (size * p) size) in
    omega (arith, get_or-range_with_len (size * p) size k d here, here, fits))
    (element_places_lie size ps count (All-tail (λ q. size * q + size ≤ count) p ps h))

-- the elements of one list, among the taken ones
pub elements_taken : (rows : List Value) (size : ℕ) (places : List ℕ) (j : ℕ) → j < length places
    → size * slice_index places j + size ≤ length rows
    → part (map (row rows) (element_places size places)) (size * j) size
    ≡ part rows (size * slice_index places j) size
elements_taken rows size places j h within =
    let all = map (row rows) (element_places size places) in
    let p = slice_index places j in
    let many : length all ≡ size * length places =
    length-map (element_places size places) (row rows) ∙ length_element_places size places in
    let fits : size * j + size ≤ length all =
    omega (arith, many, one_more_fits size j (length places) h) in
    let count = length_part all (size * j) size fits in
    let count' = length_part rows (size * p) size within in
    ap (λ (vs : List Value). list (values_of vs))
    (same_lists (take size (drop (size * j) all)) (take size (drop (size * p) rows))
    (count ∙ sym count')
    (λ k d b.
    let here : k < size = omega (arith, count, b) in
    let there : size * j + k < length (element_places size places) =
    omega (arith, many, fits, here, length-map (element_places size places) (row rows)) in
    get_or_default (take size (drop (size * j) all)) k d null b
    ∙ sym (part_row all (size * j) size k here)
    ∙ get_or-map (row rows) (element_places size places) (size * j + k) 0 null there
    ∙ ap (row rows) (element_place size places j k h here)
    ∙ part_row rows (size * p) size k here
    ∙ get_or_default (take size (drop (size * p) rows)) k null d (omega (arith, count', here))))

-- one more index
pub range_more : (a n : ℕ)
    → range_with_len a (n + 1) ≡ range_with_len a n ++ (a + n) ∷ []
range_more a n =
    sym (map-id (range_with_len a (n + 1))) ∙ map-range_with_len_more (λ i. i) a n (a + n) refl
    ∙ ap (λ xs. xs ++ (a + n) ∷ []) (map-id (range_with_len a n))

pub range_pushed : (xs ys : List ℕ) (a n : ℕ) → ys ≡ xs ++ range_with_len a n
    → ys ++ (a + n) ∷ [] ≡ xs ++ range_with_len a (n + 1)
range_pushed xs ys a n so =
    ap (λ zs. zs ++ (a + n) ∷ []) so ∙ append_assoc xs (range_with_len a n) ((a + n) ∷ [])
    ∙ ap (λ zs. xs ++ zs) (sym (range_more a n))

-- gathered integers, by their numbers
pub ints_gathered : {A : Type 0} (f : A → ℤ) (xs ys : List A) (d : A) (ns : List ℤ)
    (places : List ℕ)
    → map f xs ≡ ns → All (λ i. i < length ns) places
    → ys ≡ map (λ i. slice_index_or xs i d) places
    → map f ys ≡ map (λ i. slice_index_or ns i (pos 0)) places
ints_gathered f xs ys d ns places same within so =
    let within_xs : All (λ i. i < length xs) places =
    λ k e h. omega (arith, within k e h, ap length same, length-map xs f) in
    ap (map f) so ∙ map_gathered f xs d (pos 0) places within_xs
    ∙ ap (λ zs. map (λ i. slice_index_or zs i (pos 0)) places) same

-- one more list
element_places_push : (size : ℕ) (ps : List ℕ) (p : ℕ)
    → element_places size (ps ++ p ∷ []) ≡ element_places size ps ++ range_with_len (size * p) size
element_places_push size [] p = append-nil (range_with_len (size * p) size)
element_places_push size (q ∷ ps) p =
    ap (λ es. range_with_len (size * q) size ++ es) (element_places_push size ps p)
    ∙ sym (append_assoc (range_with_len (size * q) size) (element_places size ps)
    (range_with_len (size * p) size))

pub element_places_more : {C : Type 0} (f : C → ℕ) (size : ℕ) (places : List C) (i : ℕ) (p : C)
    (elements : List ℕ)
    → elements ≡ element_places size (map f (take i places)) → i < length places
    → p ≡ slice_index_or places i p
    → elements ++ range_with_len (size * f p) size
    ≡ element_places size (map f (take (i + 1) places))
element_places_more f size places i p elements so b p_is =
    ap (λ es. es ++ range_with_len (size * f p) size) so
    ∙ sym (element_places_push size (map f (take i places)) (f p))
    ∙ ap (element_places size) (sym (map-append f (take i places) (p ∷ []))
    ∙ ap (λ q. map f (take i places ++ q ∷ [])) p_is ∙ ap (map f) (sym (take_more places i p b)))
