-- Columns that statistics describe, and what is known of their rows; and of a literal.
use Rattle.std.specs.Prelude.{◌≡◌, ℕ, List, [], ◌∷◌, ⊤, Bool, true, false, not, Option, Some, None}
use Rattle.std.specs.Prelude.{nat_eq, length}
use Rattle.vortex_types.specs.Values.{Value, null, list}
use Rattle.vortex_columns.specs.ColumnView.{ColumnView}
use Rattle.vortex_statistics.specs.StatisticsView.{EndView, StatisticsView, is_all_null}
use Rattle.vortex_statistics.specs.Describes.{Describes}
use Rattle.vortex_ranges.specs.Ranges.{RangeView, only}
use Rattle.vortex_ranges.specs.TypeRanges.{narrowed}

-- the statistics describe the column, which has n rows
pub record IsDescribed (n : ℕ) (s : StatisticsView) (c : ColumnView) : Type 0 where
  pub dtype : c.dtype ≡ s.dtype
  pub count : length c.rows ≡ n
  pub rows : Describes s c.rows

-- each column by the statistics in its place
abbrev pub DescribeAll : ℕ → List StatisticsView → List ColumnView → Type 0
DescribeAll n [] [] = ⊤
DescribeAll n (s ∷ ss) (c ∷ cs) = IsDescribed n s c × DescribeAll n ss cs
DescribeAll n ss cs = ⊥

-- a value that a range can end with: neither null nor a list
abbrev pub end_value : Value → Option Value
end_value null = None
end_value (list vs) = None
end_value v = Some v

abbrev pub known_end : Option EndView → Option Value
known_end None = None
known_end (Some e) = end_value e.value

-- no row is null
abbrev pub has_no_null : Option ℕ → Bool
has_no_null None = false
has_no_null (Some k) = nat_eq k 0

-- what statistics say of each of n rows
abbrev pub described : ℕ → StatisticsView → RangeView
described n s =
    narrowed s.dtype
    (record {
      may_fault = false;
      may_be_null = not (has_no_null s.nulls);
      may_be_value = not (is_all_null (Some n) s.nulls);
      low = known_end s.low;
      high = known_end s.high;
    })

-- any value but null
abbrev pub not_null : RangeView
not_null = record {
  may_fault = false;
  may_be_null = false;
  may_be_value = true;
  low = None;
  high = None;
}

-- a literal; of a list no more than that it is not null
abbrev pub literal_range : Value → RangeView
literal_range (list vs) = not_null
literal_range v = only v
