-- Steps of the comparison of two lists of values.
use Rattle.std.proofs.Common.{◌≡◌, ℕ, zero, suc, ◌+◌, ◌<◌, ◌≤◌, List, [], ◌∷◌, length}
use Rattle.std.proofs.Common.{get_or, refl, sym, ap, ◌∙◌, arith, Ordering, Less, Equal, Greater}
use Rattle.std.proofs.Common.{nat_cmp, min}
use Rattle.std.proofs.lemmas.List.{drop_more}
use Rattle.std.specs.Ordering.{ordering_then, MatchOrdering}
use Rattle.std.specs.Cmp.{nat_cmp_is, ranks}
use Rattle.vortex_types.specs.Values.{Value, null, values_of, value_depth, values_depth}
use Rattle.vortex_types.specs.Order.{compare_values, compare_lists}
use Rattle.vortex_columns.specs.ColumnView.{row}
use Rattle.vortex_columns.specs.Cells.{sequence_value, sequence_values}
use Rattle.vortex_columns.specs.PairOrder.{compare_from, order_at, on_end, shared}
use Rattle.vortex_columns.specs.declared.cell.Sequence.{Sequence}
use Rattle.vortex_columns.specs.declared.cell.order.Comparing.{Comparing}

nat_cmp_suc_at : (a b : ℕ) (o : Ordering) → MatchOrdering o (a < b) (a ≡ b) (b < a)
    → MatchOrdering o (suc a < suc b) (suc a ≡ suc b) (suc b < suc a)
nat_cmp_suc_at a b Less h = omega arith
nat_cmp_suc_at a b Equal h = ap suc h
nat_cmp_suc_at a b Greater h = omega arith

nat_cmp_suc : (a b : ℕ) → nat_cmp a b ≡ nat_cmp (suc a) (suc b)
nat_cmp_suc a b =
    nat_cmp_is (suc a) (suc b) (nat_cmp a b) (nat_cmp_suc_at a b (nat_cmp a b) (ranks a b))

compare_from_ends : (xs ys : List Value)
    → compare_from (min (length xs) (length ys)) xs ys ≡ nat_cmp (length xs) (length ys)
compare_from_ends [] [] = refl
compare_from_ends [] (y ∷ ys) = let e : min 0 (suc (length ys)) ≡ 0 = omega arith in
    rw e (nat_cmp_is 0 (suc (length ys)) Less (omega arith))
compare_from_ends (x ∷ xs) [] = let e : min (suc (length xs)) 0 ≡ 0 = omega arith in
    rw e (nat_cmp_is (suc (length xs)) 0 Greater (omega arith))
compare_from_ends (x ∷ xs) (y ∷ ys) =
    let e : min (suc (length xs)) (suc (length ys)) ≡ suc (min (length xs) (length ys)) =
    omega arith in
    rw e (compare_from_ends xs ys ∙ nat_cmp_suc (length xs) (length ys))

pub then_next : (a b c : Ordering)
    → ordering_then (ordering_then a b) c ≡ ordering_then a (ordering_then b c)
then_next Less b c = refl
then_next Equal b c = refl
then_next Greater b c = refl

pub then_equal : (o : Ordering) → o ≡ ordering_then o Equal
then_equal Less = refl
then_equal Equal = refl
then_equal Greater = refl

-- the order of the values at index k of two sequences
abbrev order_in_place : ℕ → Comparing → Ordering
order_in_place k c =
    compare_values (row (sequence_values c.left) k) (row (sequence_values c.right) k)

goes_on : (k : ℕ) (c : Comparing) → k < shared c
    → order_at k c ≡ ordering_then (order_in_place k c) (order_at (k + 1) c)
goes_on k c h =
    let xs = sequence_values c.left in
    let ys = sequence_values c.right in
    (λ i.
    ordering_then
    (compare_lists (values_of (drop_more xs k null (omega arith) i))
    (values_of (drop_more ys k null (omega arith) i)))
    c.on_equal)
    ∙ then_next (order_in_place k c) (compare_from (k + 1) xs ys) c.on_equal

pub at_end : (c : Comparing) → order_at (shared c) c ≡ on_end c
at_end c =
    ap (λ o. ordering_then o c.on_equal)
    (compare_from_ends (sequence_values c.left) (sequence_values c.right))

-- two sequences inside, then what is left
pub inside : (k : ℕ) (c : Comparing) (left right : Sequence) → k < shared c
    → sequence_value left ≡ row (sequence_values c.left) k
    → sequence_value right ≡ row (sequence_values c.right) k
    → ordering_then (compare_from 0 (sequence_values left) (sequence_values right))
    (order_at (k + 1) c)
    ≡ order_at k c
inside k c left right h l r =
    (λ i. ordering_then (compare_values (l i) (r i)) (order_at (k + 1) c)) ∙ sym (goes_on k c h)

pub depth_inside : (vs : List Value) (k : ℕ) → k < length vs
    → value_depth (get_or vs k null) ≤ values_depth (values_of vs)
depth_inside [] k h = absurd (omega arith)
depth_inside (v ∷ vs) zero h = omega arith
depth_inside (v ∷ vs) (suc k) h = omega (arith, depth_inside vs k (omega arith))
