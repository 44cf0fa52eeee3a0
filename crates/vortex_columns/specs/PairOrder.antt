-- The order of two sequences from an index on, and how much of them is left.
use Rattle.std.specs.Prelude.{ℕ, suc, ◌+◌, ◌≤◌, List, [], drop, length, min, Option, Some, None}
use Rattle.std.specs.Prelude.{Vec}
use Rattle.std.specs.Global.{Global}
use Rattle.std.specs.declared.cmp.Ordering.{Ordering}
use Rattle.std.specs.Ordering.{nat_cmp, ordering_then}
use Rattle.vortex_types.specs.Values.{Value, values_of}
use Rattle.vortex_types.specs.Order.{compare_lists}
use Rattle.vortex_columns.specs.Cells.{sequence_values, IsSequence}
use Rattle.vortex_columns.specs.ValueSizes.{size_from}
use Rattle.vortex_columns.specs.declared.cell.order.Comparing.{Comparing}
use Rattle.vortex_columns.specs.declared.cell.order.Found.{Found}
use Rattle.vortex_columns.specs.declared.cell.order.Found.TheVariants.{Order, Last, Before}
use Rattle.vortex_columns.specs.declared.cell.order.Around.{Around}

-- the values of two lists from index k on
abbrev pub compare_from : ℕ → List Value → List Value → Ordering
compare_from k vs ws = compare_lists (values_of (drop k vs)) (values_of (drop k ws))

abbrev pub order_at : ℕ → Comparing → Ordering
order_at k c =
    ordering_then (compare_from k (sequence_values c.left) (sequence_values c.right)) c.on_equal

abbrev pub order_from : Comparing → Ordering
order_from c = order_at c.next c

-- where no value differs
abbrev pub on_end : Comparing → Ordering
on_end c =
    ordering_then (nat_cmp (length (sequence_values c.left)) (length (sequence_values c.right)))
    c.on_equal

-- how many indices have a value on both sides
abbrev pub shared : Comparing → ℕ
shared c = min (length (sequence_values c.left)) (length (sequence_values c.right))

abbrev pub ArePaired : Comparing → Type 0
ArePaired c = IsSequence c.left × IsSequence c.right × (c.next ≤ shared c)

abbrev pub size_at : ℕ → Comparing → ℕ
size_at k c = size_from k c.left

abbrev pub size_left : Comparing → ℕ
size_left c = size_at c.next c

abbrev pub AreFound : Found → Type 0
AreFound (Order o) = Unit {0}
AreFound (Last c) = ArePaired c
AreFound (Before outer inner) = ArePaired outer × ArePaired inner

abbrev pub found_order : Found → Ordering
found_order (Order o) = o
found_order (Last c) = order_from c
found_order (Before outer inner) = ordering_then (order_from inner) (order_from outer)

-- each pair weighs one more than what is left of it
abbrev pub found_size : Found → ℕ
found_size (Order o) = 0
found_size (Last c) = suc (size_left c)
found_size (Before outer inner) = suc (size_left inner) + suc (size_left outer)

abbrev pub listed : Option (Vec Comparing Global) → List Comparing
listed None = []
listed (Some pairs) = pairs.items

abbrev pub pairs_in : Around → List Comparing
pairs_in around = listed around.pairs
