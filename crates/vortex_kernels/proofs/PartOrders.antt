-- Lists compared element by element: the first different elements decide, else the lengths.
use Rattle.std.proofs.Common.{◌≡◌, ℕ, suc, ◌+◌, ◌<◌, ℤ, pos, Bool, true, false}
use Rattle.std.proofs.Common.{List, [], ◌∷◌, length, map, take, drop, min, refl, sym, ap, ◌∙◌, arith}
use Rattle.std.proofs.Common.{get_or, nat_cmp}
use Rattle.std.specs.Prelude.{not}
use Rattle.std.specs.Ordering.{ordering_then, is_eq, is_ne, MatchOrdering}
use Rattle.std.specs.Cmp.{nat_cmp_is, ranks}
use Rattle.std.specs.declared.cmp.Ordering.{Ordering}
use Rattle.std.specs.declared.cmp.Ordering.TheVariants.{Less, Equal, Greater}
use Rattle.std.proofs.lemmas.List.{drop_more, get_or-take, get_or-drop, length-take-le, length-drop}
use Rattle.std.proofs.lemmas.List.{same_lists, get_or_default, get_or-map, length-map}
use Rattle.vortex_types.specs.Values.{Value, null, number, values_of, is_null}
use Rattle.vortex_types.specs.Order.{compare_values, compare_lists}
use Rattle.vortex_columns.specs.ColumnView.{ColumnView, row, AreInts}
use Rattle.vortex_columns.specs.PairOrder.{compare_from}
use Rattle.vortex_kernels.specs.Ranges.{part_order, LiesIn}

-- ---- one list and another

suc_ranks : (a b : ℕ) (o : Ordering) → MatchOrdering o (a < b) (a ≡ b) (b < a)
    → MatchOrdering o (suc a < suc b) (suc a ≡ suc b) (suc b < suc a)
suc_ranks a b Less h = omega arith
suc_ranks a b Equal h = ap suc h
suc_ranks a b Greater h = omega arith

from_ends : (xs ys : List Value)
    → compare_from (min (length xs) (length ys)) xs ys ≡ nat_cmp (length xs) (length ys)
from_ends [] [] = refl
from_ends [] (y ∷ ys) = let e : min 0 (suc (length ys)) ≡ 0 = omega arith in
    rw e (nat_cmp_is 0 (suc (length ys)) Less (omega arith))
from_ends (x ∷ xs) [] = let e : min (suc (length xs)) 0 ≡ 0 = omega arith in
    rw e (nat_cmp_is (suc (length xs)) 0 Greater (omega arith))
from_ends (x ∷ xs) (y ∷ ys) =
    let e : min (suc (length xs)) (suc (length ys)) ≡ suc (min (length xs) (length ys)) =
    omega arith in
    rw e
    (from_ends xs ys
    ∙ nat_cmp_is (suc (length xs)) (suc (length ys)) (nat_cmp (length xs) (length ys))
    (suc_ranks (length xs) (length ys) (nat_cmp (length xs) (length ys))
    (ranks (length xs) (length ys))))

from_next : (xs ys : List Value) (k : ℕ) → k < length xs → k < length ys
    → compare_from k xs ys
    ≡ ordering_then (compare_values (row xs k) (row ys k)) (compare_from (k + 1) xs ys)
from_next xs ys k h g =
    λ i. compare_lists (values_of (drop_more xs k null h i)) (values_of (drop_more ys k null g i))

then_equal : (o p : Ordering) → is_ne o ≡ false → ordering_then o p ≡ p
then_equal Less p h = cc
then_equal Equal p h = refl
then_equal Greater p h = cc

then_other : (o p : Ordering) → is_ne o ≡ true → ordering_then o p ≡ o
then_other Less p h = refl
then_other Equal p h = cc
then_other Greater p h = refl

then_unequal : (o p : Ordering) → is_eq p ≡ false → is_eq (ordering_then o p) ≡ false
then_unequal Less p h = refl
then_unequal Equal p h = h
then_unequal Greater p h = refl

lengths_differ : (xs ys : List Value) → (length xs ≡ length ys → ⊥)
    → is_eq (compare_lists (values_of xs) (values_of ys)) ≡ false
lengths_differ [] [] h = absurd (h refl)
lengths_differ [] (y ∷ ys) h = refl
lengths_differ (x ∷ xs) [] h = refl
lengths_differ (x ∷ xs) (y ∷ ys) h =
    then_unequal (compare_values x y) (compare_lists (values_of xs) (values_of ys))
    (lengths_differ xs ys (λ e. h (ap suc e)))

-- ---- parts of lists

part_row : (ls : List Value) (a m k : ℕ) → k < m → row (take m (drop a ls)) k ≡ row ls (a + k)
part_row ls a m k lt = get_or-take m (drop a ls) k null lt ∙ get_or-drop a ls k null

part_length : (ls : List Value) (a m : ℕ) → LiesIn a m ls → length (take m (drop a ls)) ≡ m
part_length ls a m h = length-take-le m (drop a ls) (omega (arith, length-drop a ls, h.0))

-- the order of two parts from element k of each on
abbrev pub order_after : ℕ → List Value → ℕ → ℕ → List Value → ℕ → ℕ → Ordering
order_after k ls a m rs b n = compare_from k (take m (drop a ls)) (take n (drop b rs))

module _ (ls : List Value) (a m : ℕ) (rs : List Value) (b n : ℕ) (left : LiesIn a m ls)
    (right : LiesIn b n rs) where
  abbrev pub after : ℕ → Ordering
  after k = order_after k ls a m rs b n

  next : (k : ℕ) → k < min m n
      → after k
      ≡ ordering_then (compare_values (row ls (a + k)) (row rs (b + k))) (after (k + 1))
  next k lt =
      from_next (take m (drop a ls)) (take n (drop b rs)) k
      (omega (arith, part_length ls a m left, lt)) (omega (arith, part_length rs b n right, lt))
      ∙ (λ i.
      ordering_then
      (compare_values (part_row ls a m k (omega (arith, lt)) i)
      (part_row rs b n k (omega (arith, lt)) i)) (after (k + 1)))

  module _ (k : ℕ) (lt : k < min m n) (o : Ordering)
      (is : o ≡ compare_values (row ls (a + k)) (row rs (b + k)))
      (so_far : after k ≡ part_order ls a m rs b n) where
    one : ordering_then o (after (k + 1)) ≡ part_order ls a m rs b n
    one = ap (λ p. ordering_then p (after (k + 1))) is ∙ sym (next k lt) ∙ so_far

    pub decided : is_ne o ≡ true → o ≡ part_order ls a m rs b n
    decided h = sym (then_other o (after (k + 1)) h) ∙ one

    pub goes_on : is_ne o ≡ false → after (k + 1) ≡ part_order ls a m rs b n
    goes_on h = sym (then_equal o (after (k + 1)) h) ∙ one

  pub at_end : after (min m n) ≡ part_order ls a m rs b n
      → nat_cmp m n ≡ part_order ls a m rs b n
  at_end so_far =
      let l = part_length ls a m left in
      let r = part_length rs b n right in
      (λ i. nat_cmp (sym l i) (sym r i))
      ∙ sym (from_ends (take m (drop a ls)) (take n (drop b rs)))
      ∙ (λ i. after (min (l i) (r i)))
      ∙ so_far

  pub uneven : (m ≡ n → ⊥) → is_eq (part_order ls a m rs b n) ≡ false
  uneven h =
      lengths_differ (take m (drop a ls)) (take n (drop b rs))
      (λ e. h (sym (part_length ls a m left) ∙ e ∙ part_length rs b n right))

-- ---- elements

-- an integer in a row, as a value
pub int_row : {X : Type 0} (f : X → ℤ) (xs : List X) (i : ℕ) (d : X) → i < length xs
    → number (f (get_or xs i d)) ≡ row (map number (map f xs)) i
int_row f xs i d lt =
    sym
    (get_or-map number (map f xs) i (pos 0) null (omega (arith, length-map xs f, lt))
    ∙ ap number (get_or-map f xs i d (pos 0) lt))

pub map_length : {X : Type 0} (f : X → ℤ) (xs : List X) (i : ℕ) → i < length (map number (map f xs))
    → i < length xs
map_length f xs i lt = omega (arith, length-map (map f xs) number, length-map xs f, lt)

-- integers of which none is null
pub ints_are_rows : (c : ColumnView) (ns : List ℤ) → AreInts c ns
    → ((i : ℕ) → i < length c.rows → true ≡ not (is_null (row c.rows i)))
    → map number ns ≡ c.rows
ints_are_rows c ns are valid =
    same_lists (map number ns) c.rows (length-map ns number ∙ are.count)
    (λ k d lt.
    let here : k < length ns = omega (arith, length-map ns number, lt) in
    let there : k < length c.rows = omega (arith, here, are.count) in
    get_or-map number ns k (pos 0) d here
    ∙ sym (are.each k here (present (is_null (row c.rows k)) (valid k there)))
    ∙ get_or_default c.rows k null d there)
  where
    present : (b : Bool) → true ≡ not b → b ≡ false
    present true h = cc
    present false h = refl
