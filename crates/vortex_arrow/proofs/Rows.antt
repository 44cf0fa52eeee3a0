-- Rows of buffers: those of a part that is copied, one by one, and columns of the same rows.
use Rattle.std.proofs.Common.{◌≡◌, ℕ, ◌+◌, ◌*◌, ◌/◌, ◌%◌, ◌<◌, ◌≤◌, ℤ, pos, Bool, true, false}
use Rattle.std.proofs.Common.{cond, List, [], length, map, take, drop, get_or, refl, sym}
use Rattle.std.proofs.Common.{ap, ◌∙◌, arith}
use Rattle.std.specs.Prelude.{slice_index_or, None}
use Rattle.std.specs.List.{range_with_len}
use Rattle.std.proofs.lemmas.List.{get_or-take, get_or-drop, take-map, drop-map, length-take}
use Rattle.std.proofs.lemmas.List.{length-drop}
use Rattle.std.proofs.lemmas.List.FromFn.{fill_by_all, length-map-range_with_len}
use Rattle.std.proofs.lemmas.List.FromFn.{get_or-map-range_with_len}
use Rattle.vortex_types.specs.declared.dtype.PType.{PType}
use Rattle.vortex_types.specs.LogicalTypes.{LogicalType, bool_type, integer_type}
use Rattle.vortex_types.specs.Values.{Value, null, truth, number}
use Rattle.vortex_bits.specs.Bits.{bit, bit_of, bits_from}
use Rattle.vortex_bits.proofs.Opened.{bit_of_rest, row_of_bits, count_of_bits}
use Rattle.vortex_columns.specs.ValidityView.{ValidityView, is_valid_row}
use Rattle.vortex_columns.specs.Stored.{made_of, bool_column}
use Rattle.vortex_columns.specs.Made.{int_column}
use Rattle.vortex_columns.specs.ValidityView.{form_allows_null}
use Rattle.vortex_arrow.specs.Layouts.{bits, numbers}
use Rattle.vortex_arrow.specs.Columns.{values_from, row_bytes, column_from}

pub map_range_same : {X : Type 0} (d : X) (f g : ℕ → X) (n : ℕ) → ((i : ℕ) → i < n → f i ≡ g i)
    → map f (range_with_len 0 n) ≡ map g (range_with_len 0 n)
map_range_same d f g n same =
    fill_by_all g (map f (range_with_len 0 n)) n d (length-map-range_with_len f 0 n)
    (λ k h. get_or-map-range_with_len f 0 n k k d h (omega arith) ∙ same k h)

masked : (b : Bool) (x y z : Value) → (b ≡ true → x ≡ y) → cond b x z ≡ cond b y z
masked true x y z h = h refl
masked false x y z h = refl

-- columns are the same where their valid rows are
pub made_of_same : (t : LogicalType) (v : ValidityView) (m n : ℕ) (f g : ℕ → Value) → m ≡ n
    → ((i : ℕ) → i < n → is_valid_row v i ≡ true → f i ≡ g i) → made_of t v m f ≡ made_of t v n g
made_of_same t v m n f g count same =
    ap (λ k. made_of t v k f) count
    ∙ ap (λ (rows : List Value). record { dtype = t; rows = rows; constant = None; form = v.form })
    (map_range_same null (λ i. cond (is_valid_row v i) (f i) null)
    (λ i. cond (is_valid_row v i) (g i) null) n
    (λ i h. masked (is_valid_row v i) (f i) (g i) null (same i h)))

-- an item of a part of a list
pub part_at : {X : Type 0} (xs : List X) (from n i : ℕ) (d : X) → i < n
    → get_or (take n (drop from xs)) i d ≡ get_or xs (from + i) d
part_at xs from n i d h = get_or-take n (drop from xs) i d h ∙ get_or-drop from xs i d

pub length_part : {X : Type 0} (xs : List X) (from n : ℕ) → from + n ≤ length xs
    → length (take n (drop from xs)) ≡ n
length_part xs from n h = omega (arith, length-take n (drop from xs), length-drop from xs)

-- a number of a part of a list
pub number_of_part : {A : Type 0} (f : A → ℤ) (xs : List A) (from n i : ℕ) → i < n
    → get_or (map f (take n (drop from xs))) i (pos 0) ≡ get_or (map f xs) (from + i) (pos 0)
number_of_part f xs from n i h =
    ap (λ (ys : List ℤ). get_or ys i (pos 0))
    (sym (take-map f n (drop from xs)) ∙ ap (take n) (sym (drop-map f from xs)))
    ∙ part_at (map f xs) from n i (pos 0) h

-- the bits of a part of bytes
bit_of_part : (bytes : List ℕ) (from k p : ℕ) → p / 8 < k
    → bit_of (take k (drop (from / 8) bytes)) p ≡ bit_of bytes (8 * (from / 8) + p)
bit_of_part bytes from k p h =
    ap (λ n. bit n (p % 8)) (get_or-take k (drop (from / 8) bytes) (p / 8) 0 h)
    ∙ bit_of_rest bytes (drop (from / 8) bytes) (from / 8) p refl

pub bits_of_part : (bytes : List ℕ) (from n k : ℕ) → from % 8 + n ≤ 8 * k
    → bits_from (take k (drop (from / 8) bytes)) (from % 8) n ≡ bits_from bytes from n
bits_of_part bytes from n k room =
    map_range_same false (λ i. bit_of (take k (drop (from / 8) bytes)) (from % 8 + i))
    (λ i. bit_of bytes (from + i)) n
    (λ i h.
    let place : 8 * (from / 8) + (from % 8 + i) ≡ from + i = omega arith in
    bit_of_part bytes from k (from % 8 + i) (omega arith) ∙ ap (bit_of bytes) place)

-- the value of a row that is not null
pub value_from : (item : ℕ → List ℕ) (v : ValidityView) (from n i : ℕ) → i < n
    → is_valid_row v i ≡ true → get_or (values_from item v from n) i [] ≡ item (from + i)
value_from item v from n i h valid =
    get_or-map-range_with_len (row_bytes item v from) 0 n i i [] h (omega arith)
    ∙ ap (λ b. cond b (item (from + i)) []) valid

pub length_values : (item : ℕ → List ℕ) (v : ValidityView) (from n : ℕ)
    → length (values_from item v from n) ≡ n
length_values item v from n = length-map-range_with_len (row_bytes item v from) 0 n

-- columns of what was read are those of the layouts
pub bools_from : (bs : List Bool) (bytes : List ℕ) (v : ValidityView) (from n : ℕ)
    → bs ≡ bits_from bytes from n → bool_column bs v ≡ column_from (bits bytes) v from n
bools_from bs bytes v from n e =
    made_of_same (bool_type (form_allows_null v.form)) v (length bs) n
    (λ i. truth (slice_index_or bs i false)) (λ i. truth (bit_of bytes (from + i)))
    (ap length e ∙ count_of_bits bytes from n)
    (λ i h valid. ap truth
    (ap (λ (l : List Bool). slice_index_or l i false) e ∙ row_of_bits bytes from n i h))

pub integers_from : {A : Type 0} (p : PType) (f : A → ℤ) (ys xs : List A) (v : ValidityView)
    (from n : ℕ) → from + n ≤ length xs → ys ≡ take n (drop from xs)
    → int_column p f ys v ≡ column_from (numbers p (map f xs)) v from n
integers_from p f ys xs v from n room e =
    made_of_same (integer_type p (form_allows_null v.form)) v (length ys) n
    (λ i. number (slice_index_or (map f ys) i (pos 0)))
    (λ i. number (slice_index_or (map f xs) (from + i) (pos 0)))
    (ap length e ∙ length_part xs from n room)
    (λ i h valid. ap number
    (ap (λ (l : List _). slice_index_or (map f l) i (pos 0)) e
    ∙ number_of_part f xs from n i h))

pub strings_from : (t : LogicalType) (say : List ℕ → Value) (item : ℕ → List ℕ)
    (v : ValidityView) (from n : ℕ) (values : List (List ℕ)) → values ≡ values_from item v from n
    → made_of t v (length values) (λ i. say (slice_index_or values i []))
    ≡ made_of t v n (λ i. say (item (from + i)))
strings_from t say item v from n values e =
    made_of_same t v (length values) n (λ i. say (slice_index_or values i []))
    (λ i. say (item (from + i))) (ap length e ∙ length_values item v from n)
    (λ i h valid. ap say
    (ap (λ (l : List (List ℕ)). slice_index_or l i []) e
    ∙ value_from item v from n i h valid))
