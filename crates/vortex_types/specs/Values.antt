-- The value of one row. A record is the list of its fields' values; its type distinguishes it from
-- a list.
use Rattle.std.specs.Prelude.{ℕ, zero, suc, max, ℤ, List, [], ◌∷◌, Bool, true, false, Option, Some}
use Rattle.std.specs.Prelude.{None}

mutual
  pub data Value : Type 0 where
    null : Value
    truth : Bool → Value
    number : ℤ → Value
    text : List ℕ → Value
    bytes : List ℕ → Value
    list : Values → Value

  pub data Values : Type 0 where
    no_values : Values
    value : Value → Values → Values

abbrev pub values_of : List Value → Values
values_of [] = no_values
values_of (v ∷ vs) = value v (values_of vs)

abbrev pub value_count : Values → ℕ
value_count no_values = 0
value_count (value v vs) = suc (value_count vs)

-- the value at index k, and null past the end
abbrev pub nth_value : ℕ → Values → Value
nth_value k no_values = null
nth_value zero (value v vs) = v
nth_value (suc k) (value v vs) = nth_value k vs

abbrev pub is_null : Value → Bool
is_null null = true
is_null v = false

-- a truth value or null, as in Kleene's tables
abbrev pub truth_of : Value → Option Bool
truth_of (truth b) = Some b
truth_of v = None

abbrev pub truth_or_null : Option Bool → Value
truth_or_null None = null
truth_or_null (Some b) = truth b

-- how deep lists nest
abbrev mutual
  pub value_depth : Value → ℕ
  value_depth null = 0
  value_depth (truth b) = 0
  value_depth (number z) = 0
  value_depth (text bs) = 0
  value_depth (bytes bs) = 0
  value_depth (list vs) = suc (values_depth vs)

  pub values_depth : Values → ℕ
  values_depth no_values = 0
  values_depth (value v vs) = max (value_depth v) (values_depth vs)
