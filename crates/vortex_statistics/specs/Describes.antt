-- Which columns statistics describe.
use Rattle.std.specs.Prelude.{◌≡◌, ◌&&◌, Bool, true, false, not, List, length, All, Contains}
use Rattle.std.specs.Prelude.{IfSome, count_by}
use Rattle.vortex_types.specs.Values.{Value, is_null}
use Rattle.vortex_columns.specs.ColumnView.{AreTyped}
use Rattle.vortex_statistics.specs.StatisticsView.{EndView, StatisticsView, is_at_most}

-- a NaN; no type has it so far
abbrev pub is_nan : Value → Bool
is_nan v = false

-- a value that lies between the ends: not null, and no NaN where the ends leave NaN out
abbrev pub is_bounded : Bool → Value → Bool
is_bounded skips_nan v = not (is_null v) && not (is_nan v && skips_nan)

abbrev pub is_at_least : Value → Value → Bool
is_at_least v w = is_at_most w v

-- no value of the rows lies before w in the order
abbrev pub IsBehind : (Value → Value → Bool) → Bool → Value → Value → Type 0
IsBehind order skips_nan w v = is_bounded skips_nan v ≡ true → order w v ≡ true

abbrev pub AreBehind : (Value → Value → Bool) → Bool → Value → List Value → Type 0
AreBehind order skips_nan w = All (IsBehind order skips_nan w)

-- an end of the rows; and an attained end is the value of a row
pub record IsEnd (order : Value → Value → Bool) (skips_nan : Bool) (vs : List Value) (e : EndView)
    : Type 0 where
  pub outermost : AreBehind order skips_nan e.value vs
  pub found : e.attained ≡ true → Contains vs e.value

-- no value is below a low end, and none above a high one
abbrev pub IsLowEnd : Bool → List Value → EndView → Type 0
IsLowEnd = IsEnd is_at_most

abbrev pub IsHighEnd : Bool → List Value → EndView → Type 0
IsHighEnd = IsEnd is_at_least

-- the rows have the type, are that many, that many of them are null, and the others lie between
-- the ends
pub record Describes (s : StatisticsView) (vs : List Value) : Type 0 where
  pub typed : AreTyped s.dtype vs
  pub rows : IfSome s.rows (λ n. length vs ≡ n)
  pub nulls : IfSome s.nulls (λ n. count_by is_null vs ≡ n)
  pub low : IfSome s.low (IsLowEnd s.skips_nan vs)
  pub high : IfSome s.high (IsHighEnd s.skips_nan vs)
