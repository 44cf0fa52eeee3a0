-- Ends of columns of floats that leave NaN out.
use Rattle.std.specs.Prelude.{◌≡◌, ◌⊎◌, true, false, List, All, T, None, IfSome}
use Rattle.std.specs.Option.{option_map}
use Rattle.std.specs.Float.{Float, Format}
use Rattle.std.specs.Float.Ieee.{is_nan}
use lib.Ieee.{fits}
use Rattle.vortex_types.specs.Values.{Value, null, number}
use Rattle.vortex_statistics.specs.StatisticsView.{EndView, StatisticsView, is_at_most}
use Rattle.vortex_statistics.specs.Describes.{Describes}
use Rattle.vortex_logical.specs.FloatKeys.{key_of_float}

-- the stored value of a float of that size
pub record IsFloat (f : Format) (v : Value) : Type 0 where
  pub float : Float
  pub fitting : T (fits f float)
  pub stored : v ≡ number (key_of_float f float)

-- null, or such a value
abbrev pub AreFloats : Format → List Value → Type 0
AreFloats f vs = All (λ v. (v ≡ null) ⊎ IsFloat f v) vs

-- no float of the rows is below the end, which is a float, but for NaN
pub record IsLowOfNumbers (f : Format) (vs : List Value) (e : EndView) : Type 0 where
  pub end : IsFloat f e.value
  pub lowest : All (λ v. (x : IsFloat f v) → is_nan x.float ≡ false → is_at_most e.value v ≡ true) vs

-- of the others it is a low end, which no row need have, and there is no high one
abbrev pub outer : EndView → EndView
outer e = record { value = e.value; attained = false }

abbrev pub low_alone : StatisticsView → StatisticsView
low_alone s = record {
  dtype = s.dtype;
  rows = s.rows;
  nulls = s.nulls;
  low = option_map outer s.low;
  high = None;
  skips_nan = s.skips_nan;
}

-- statistics whose low end is one of the numbers alone; their high end is not looked at
pub record DescribesNumbers (f : Format) (s : StatisticsView) (vs : List Value) : Type 0 where
  pub floats : AreFloats f vs
  pub others : Describes (record {
    dtype = s.dtype;
    rows = s.rows;
    nulls = s.nulls;
    low = None;
    high = None;
    skips_nan = s.skips_nan;
  }) vs
  pub low : IfSome s.low (IsLowOfNumbers f vs)

-- without their high end they describe all rows, since NaN is the greatest float
abbrev pub LowEndsHoldOfNan : Type 0
LowEndsHoldOfNan =
    (f : Format) (s : StatisticsView) (vs : List Value) → DescribesNumbers f s vs
    → Describes (low_alone s) vs
