-- The rows that are true, by what forms of bits tell of each.
use Rattle.std.proofs.Common.{◌≡◌, ℕ, ◌<◌, ◌≤◌, Bool, true, false, not, ◌&&◌}
use Rattle.std.proofs.Common.{List, length, refl, sym, ap, ◌∙◌, arith, take}
use Rattle.std.specs.Prelude.{unwrap_or, slice_index}
use Rattle.std.proofs.lemmas.List.{length-map, length-take-le, get_or-take, get_or-map}
use Rattle.std.proofs.lemmas.List.FromFn.{get_or-map-range_with_len, fill_by_all}
use Rattle.vortex_types.specs.LogicalTypes.{LogicalType, null_type, bool_type, integer_type}
use Rattle.vortex_types.specs.LogicalTypes.{text_type, bytes_type, struct_type, list_type}
use Rattle.vortex_types.specs.LogicalTypes.{fixed_size_list_type, map_type, is_bool_type}
use Rattle.vortex_types.specs.Values.{Value, null, truth, number, text, bytes, list, truth_of}
use Rattle.vortex_types.specs.Values.{is_null}
use Rattle.vortex_types.specs.Typing.{HasType}
use Rattle.vortex_types.specs.ScalarView.{ScalarView}
use Rattle.vortex_columns.specs.ColumnView.{ColumnView, row, IsUnlessNull, constant_column}
use Rattle.vortex_columns.specs.TrueRows.{is_true, true_among, true_rows}
use Rattle.vortex_arrow.specs.Written.{places, flag, mask_of}
use Rattle.vortex_arrow.proofs.Places.{same_places}

-- the rows that are true are places at which a test gives true
among : (rows : List Value) (n : ℕ)
    → true_among n rows ≡ places (λ i. is_true (row rows i)) n
unfolding places
among rows n = refl

pub true_places : (rows : List Value) (test : ℕ → Bool)
    → ((i : ℕ) → i < length rows → test i ≡ is_true (row rows i))
    → places test (length rows) ≡ true_rows rows
true_places rows test same =
    same_places test (λ i. is_true (row rows i)) (length rows) same
    ∙ sym (among rows (length rows))

-- a row is true where its bit is set and it is not null
pub told_true : (v : Value) (b valid : Bool) → IsUnlessNull v (truth b) → valid ≡ not (is_null v)
    → (b && valid) ≡ is_true v
told_true null true valid is e = e
told_true null false valid is e = refl
told_true (truth x) b valid is e =
    let same : truth x ≡ truth b = is refl in
    ap (λ w. b && w) e ∙ by b x (cc)
  where
    by : (b x : Bool) → b ≡ x → (b && true) ≡ x
    by true x same = same
    by false x same = same
told_true (number x) b valid is e = let same : number x ≡ truth b = is refl in absurd (cc)
told_true (text x) b valid is e = let same : text x ≡ truth b = is refl in absurd (cc)
told_true (bytes x) b valid is e = let same : bytes x ≡ truth b = is refl in absurd (cc)
told_true (list x) b valid is e = let same : list x ≡ truth b = is refl in absurd (cc)

-- where no row is null, and where each is
pub bit_true : (v : Value) (b : Bool) → IsUnlessNull v (truth b) → true ≡ not (is_null v)
    → b ≡ is_true v
bit_true v true is e = told_true v true true is e
bit_true v false is e = told_true v false true is e

pub null_true : (v : Value) → false ≡ not (is_null v) → false ≡ is_true v
null_true null e = refl
null_true (truth x) e = absurd (cc)
null_true (number x) e = refl
null_true (text x) e = refl
null_true (bytes x) e = refl
null_true (list x) e = refl

-- no value of another type is true
pub never_true : (t : LogicalType) (v : Value) → (is_bool_type t ≡ true → ⊥) → HasType t v
    → is_true v ≡ false
never_true t null other h = refl
never_true t (number z) other h = refl
never_true t (text bs) other h = refl
never_true t (bytes bs) other h = refl
never_true t (list vs) other h = refl
never_true (bool_type n) (truth b) other h = absurd (other refl)
never_true null_type (truth b) other h = absurd h
never_true (integer_type p n) (truth b) other h = absurd h
never_true (text_type n) (truth b) other h = absurd h
never_true (bytes_type n) (truth b) other h = absurd h
never_true (struct_type fs n) (truth b) other h = absurd h
never_true (list_type t n) (truth b) other h = absurd h
never_true (fixed_size_list_type t s n) (truth b) other h = absurd h
never_true (map_type kt vt n) (truth b) other h = absurd h

true_by : (v : Value) → is_true v ≡ unwrap_or (truth_of v) false
true_by null = refl
true_by (truth b) = refl
true_by (number z) = refl
true_by (text bs) = refl
true_by (bytes bs) = refl
true_by (list vs) = refl

-- whether each row of a constant is true
pub constant_true : (c : ColumnView) (s : ScalarView) → c ≡ constant_column s (length c.rows)
    → (i : ℕ) → i < length c.rows → is_true (row c.rows i) ≡ unwrap_or (truth_of s.value) false
constant_true c s is i lt =
    ap (λ (d : ColumnView). is_true (row d.rows i)) is
    ∙ ap is_true (get_or-map-range_with_len (λ k. s.value) 0 (length c.rows) i i null lt (omega arith))
    ∙ true_by s.value

-- a byte for each row
pub masked : (rows : List Value) (test : ℕ → Bool) (mask : List ℕ) → length rows ≤ length mask
    → ((i : ℕ) → i < length rows → test i ≡ is_true (row rows i))
    → ((i : ℕ) → i < length rows → slice_index mask i ≡ flag (test i))
    → take (length rows) mask ≡ mask_of rows
masked rows test mask room same told =
    fill_by_all (λ i. flag (is_true (row rows i))) (take (length rows) mask) (length rows) 0
    (length-take-le (length rows) mask room)
    (λ k lt. get_or-take (length rows) mask k 0 lt ∙ told k lt ∙ ap flag (same k lt))
    ∙ sym (fill_by_all (λ i. flag (is_true (row rows i))) (mask_of rows) (length rows) 0
    (length-map rows (λ v. flag (is_true v)))
    (λ k lt. get_or-map (λ v. flag (is_true v)) rows k null 0 lt))
