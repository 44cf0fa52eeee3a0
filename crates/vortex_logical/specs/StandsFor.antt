-- What a stored integer of a kind means, and that integers are in the order of what they mean.
use Rattle.std.specs.Prelude.{◌≡◌, ◌<◌, ◌⊎◌, ℕ, ℤ, pos, ◌<ℤ◌, ◌+ℤ◌, ◌*ℤ◌, T}
use Rattle.std.specs.Float.{Float, binary32, binary64}
use Rattle.std.specs.Ordering.{nan_last_cmp}
use Rattle.std.specs.declared.cmp.Ordering.TheVariants.{Less, Equal}
use lib.Ieee.{fits}
use Rattle.vortex_logical.specs.declared.kind.Kind.{Kind}
use Rattle.vortex_logical.specs.declared.kind.Kind.TheVariants.{Date, Timestamp, Decimal}
use Rattle.vortex_logical.specs.declared.kind.Kind.TheVariants.{F64, F32}
use Rattle.vortex_logical.specs.Decimals.{decimal_cmp, SameDecimal}
use Rattle.vortex_logical.specs.DateTexts.{IsDay}
use Rattle.vortex_logical.specs.FloatKeys.{key_of_float}

-- a day of the calendar
pub record Day : Type 0 where
  pub year : ℕ
  pub month : ℕ
  pub day : ℕ

-- a value: the number m / 10 ^ s, a day, a day and the microseconds since its midnight, a float
pub data Meaning : Type 0 where
  number : ℤ → ℕ → Meaning
  day : Day → Meaning
  instant : Day → ℕ → Meaning
  float : Float → Meaning

-- days are numbered from 1970-01-01
abbrev pub NumbersDay : ℤ → Day → Type 0
NumbersDay z d = IsDay z d.year d.month d.day

-- the instant z is in the day, so many microseconds from its midnight
pub record NumbersInstant (z : ℤ) (d : Day) (micros : ℕ) : Type 0 where
  pub number : ℤ
  pub of_day : NumbersDay number d
  pub within : micros < 86400000000
  pub total : z ≡ (number *ℤ pos 86400000000 +ℤ pos micros)

-- the stored integer z of the kind means the value
abbrev pub StandsFor : Kind → ℤ → Meaning → Type 0
StandsFor Date z (day d) = NumbersDay z d
StandsFor Timestamp z (instant d t) = NumbersInstant z d t
StandsFor (Decimal p) z (number m s) = (z ≡ m) × (s ≡ p.scale)
StandsFor F64 z (float x) = T (fits binary64 x) × (z ≡ key_of_float binary64 x)
StandsFor F32 z (float x) = T (fits binary32 x) × (z ≡ key_of_float binary32 x)
StandsFor k z v = ⊥

-- by year, then by month, then by day of the month
abbrev pub IsBefore : Day → Day → Type 0
IsBefore a b =
    (a.year < b.year)
    ⊎ ((a.year ≡ b.year) × ((a.month < b.month) ⊎ ((a.month ≡ b.month) × (a.day < b.day))))

abbrev pub IsBelow : Meaning → Meaning → Type 0
IsBelow (number m s) (number n t) = decimal_cmp m s n t ≡ Less
IsBelow (day a) (day b) = IsBefore a b
IsBelow (instant a t) (instant b u) = IsBefore a b ⊎ ((a ≡ b) × (t < u))
IsBelow (float x) (float y) = nan_last_cmp x y ≡ Less
IsBelow v w = ⊥

-- as -0 and 0, and 1.0 and 1.00
abbrev pub IsLevel : Meaning → Meaning → Type 0
IsLevel (number m s) (number n t) = SameDecimal m s n t
IsLevel (day a) (day b) = a ≡ b
IsLevel (instant a t) (instant b u) = (a ≡ b) × (t ≡ u)
IsLevel (float x) (float y) = nan_last_cmp x y ≡ Equal
IsLevel v w = ⊥

-- of two stored integers of a kind the lesser one means the lesser value, and level values have one
-- integer
abbrev pub StoredValuesAreOrdered : Type 0
StoredValuesAreOrdered =
    (k : Kind) (y z : ℤ) (v w : Meaning) → StandsFor k y v → StandsFor k z w
    → (IsBelow v w → y <ℤ z) × (IsLevel v w → y ≡ z)
