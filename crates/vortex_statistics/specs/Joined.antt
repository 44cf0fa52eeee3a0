-- Statistics of the rows of one column followed by those of another.
use Rattle.std.specs.Prelude.{◌||◌, ◌+◌, ◌++◌, ℕ, Bool, List, Option, Some, None}
use Rattle.std.specs.Prelude.{nat_lt, if◌then◌else◌}
use Rattle.std.specs.declared.cmp.Ordering.{Ordering}
use Rattle.std.specs.declared.cmp.Ordering.TheVariants.{Less, Equal, Greater}
use Rattle.vortex_types.specs.Values.{Value}
use Rattle.vortex_types.specs.Order.{compare_values}
use Rattle.vortex_statistics.specs.StatisticsView.{EndView, StatisticsView, is_all_null}
use Rattle.vortex_statistics.specs.Describes.{Describes}

-- the sum of two counts, where both are known and it is below 2^64
abbrev pub sum_of : Option ℕ → Option ℕ → Option ℕ
sum_of (Some m) (Some n) = if nat_lt (m + n) 18446744073709551616 then Some (m + n) else None
sum_of m n = None

-- the lower of two ends; of two ends of one value that is attained if either is
abbrev pub lower_by : Ordering → EndView → EndView → EndView
lower_by Less a b = a
lower_by Equal a b = record { value = a.value; attained = a.attained || b.attained }
lower_by Greater a b = b

abbrev pub lower_end : EndView → EndView → EndView
lower_end a b = lower_by (compare_values a.value b.value) a b

-- and the higher
abbrev pub higher_end : EndView → EndView → EndView
higher_end a b = lower_by (compare_values b.value a.value) a b

abbrev pub end_of_both : (EndView → EndView → EndView) → Option EndView → Option EndView
    → Option EndView
end_of_both f (Some a) (Some b) = Some (f a b)
end_of_both f a b = None

-- where each row of one side is null, the end of the other; else one where both are known
abbrev pub joined_end : (EndView → EndView → EndView) → Bool → Bool → Option EndView
    → Option EndView → Option EndView
joined_end f left_null right_null a b =
    if left_null then b else (if right_null then a else end_of_both f a b)

abbrev pub joined : StatisticsView → StatisticsView → StatisticsView
joined a b =
    let left_null = is_all_null a.rows a.nulls in
    let right_null = is_all_null b.rows b.nulls in
    record {
      dtype = a.dtype;
      rows = sum_of a.rows b.rows;
      nulls = sum_of a.nulls b.nulls;
      low = joined_end lower_end left_null right_null a.low b.low;
      high = joined_end higher_end left_null right_null a.high b.high;
      skips_nan = a.skips_nan || b.skips_nan;
    }

-- s describes each column that a describes, followed by one that b describes
abbrev pub DescribesBoth : StatisticsView → StatisticsView → StatisticsView → Type 0
DescribesBoth a b s =
    (xs ys : List Value) → Describes a xs → Describes b ys → Describes s (xs ++ ys)
