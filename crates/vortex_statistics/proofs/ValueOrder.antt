-- "At most" in the order of values.
use Rattle.std.proofs.Common.{◌≡◌, true, false, refl, ap, ◌∙◌}
use Rattle.std.specs.declared.cmp.Ordering.{Ordering}
use Rattle.std.specs.declared.cmp.Ordering.TheVariants.{Less, Equal, Greater}
use Rattle.std.specs.Ordering.{is_le, is_gt, ordering_reverse}
use Rattle.std.proofs.lemmas.Cmp.{upto}
use Rattle.vortex_types.specs.Values.{Value}
use Rattle.vortex_types.specs.Order.{compare_values}
use Rattle.vortex_types.specs.OrderLaws.{compare_values_total, equals_are_same}
use Rattle.vortex_statistics.specs.StatisticsView.{is_at_most}

gt_of_le : (o : Ordering) → is_le o ≡ true → is_gt o ≡ false
gt_of_le Less h = refl
gt_of_le Equal h = refl
gt_of_le Greater h = cc

pub le_of_gt : (o : Ordering) → is_gt o ≡ false → is_le o ≡ true
le_of_gt Less h = refl
le_of_gt Equal h = refl
le_of_gt Greater h = cc

le_of_reversed : (o : Ordering) → is_le o ≡ false → is_le (ordering_reverse o) ≡ true
le_of_reversed Less h = cc
le_of_reversed Equal h = cc
le_of_reversed Greater h = refl

pub at_most_trans : (v w x : Value) → is_at_most v w ≡ true → is_at_most w x ≡ true
    → is_at_most v x ≡ true
at_most_trans v w x h k =
    le_of_gt (compare_values v x)
    (upto compare_values_total v w x (gt_of_le (compare_values v w) h)
    (gt_of_le (compare_values w x) k))

pub at_most_itself : (v : Value) → is_at_most v v ≡ true
at_most_itself v = ap is_le (equals_are_same.equal v)

-- of two values one is at most the other
pub at_most_back : (v w : Value) → is_at_most v w ≡ false → is_at_most w v ≡ true
at_most_back v w h =
    ap is_le (compare_values_total.antisymm w v) ∙ le_of_reversed (compare_values v w) h

pub at_most_greater : (v w : Value) → compare_values v w ≡ Greater → is_at_most w v ≡ true
at_most_greater v w h = at_most_back v w (ap is_le h)

above_of_gt : (o : Ordering) → is_gt o ≡ true → is_le o ≡ false
above_of_gt Less h = cc
above_of_gt Equal h = cc
above_of_gt Greater h = refl

pub at_most_above : (v w : Value) → is_gt (compare_values v w) ≡ true → is_at_most w v ≡ true
at_most_above v w h = at_most_back v w (above_of_gt (compare_values v w) h)
