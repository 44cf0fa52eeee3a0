-- What a column can hold between two ends, each of which may be some row's: so where a pattern of a
-- prefix and a wildcard, or Between, is left undecided, nothing better can be said of it.
use Rattle.std.specs.Prelude.{◌≡◌, ℕ, List, Bool, true, false, Some, nat_eq, IsUtf8}
use Rattle.std.specs.List.{starts_with}
use Rattle.vortex_types.specs.Values.{Value, text, truth, is_null}
use Rattle.vortex_operators.specs.declared.between.BetweenOptions.{BetweenOptions}
use Rattle.vortex_operators.specs.declared.between.StrictComparison.TheVariants.{NonStrict}
use Rattle.vortex_operators.specs.Between.{between_value}
use Rattle.vortex_ranges.specs.Ranges.{RangeView, Admits, is_above, may_be, only}
use Rattle.vortex_ranges.specs.Comparing.{betweenness}
use Rattle.vortex_ranges.specs.Prefixes.{excludes_prefix, shares_prefix}

-- both ends are texts, in order
pub record HasTextEnds (r : RangeView) (low high : List ℕ) : Type 0 where
  pub low_text : IsUtf8 low
  pub high_text : IsUtf8 high
  pub is_low : r.low ≡ Some (text low)
  pub is_high : r.high ≡ Some (text high)
  pub ordered : is_above (text low) (text high) ≡ false
  pub some : r.may_be_value ≡ true

-- an admitted text that begins with the prefix, or one that does not
pub record IsBegun (r : RangeView) (prefix : List ℕ) (begun : Bool) : Type 0 where
  pub bytes : List ℕ
  pub utf8 : IsUtf8 bytes
  pub admitted : Admits r (text bytes)
  pub starts : starts_with nat_eq bytes prefix ≡ begun

-- Where no text is excluded, one begins with the prefix; and where the ends do not share it, one
-- does not. Without a high end the second fails: each text from U+10FFFF on begins with it.
pub record PrefixesAreReached : Type 0 where
  pub begun : (r : RangeView) (low high prefix : List ℕ) → HasTextEnds r low high → IsUtf8 prefix
      → excludes_prefix r prefix ≡ false → IsBegun r prefix true
  pub other : (r : RangeView) (low high prefix : List ℕ) → HasTextEnds r low high
      → shares_prefix r prefix ≡ false → IsBegun r prefix false

-- both ends are values, in order
pub record HasTwoEnds (r : RangeView) (low high : Value) : Type 0 where
  pub low_valid : is_null low ≡ false
  pub high_valid : is_null high ≡ false
  pub is_low : r.low ≡ Some low
  pub is_high : r.high ≡ Some high
  pub ordered : is_above low high ≡ false
  pub some : r.may_be_value ≡ true

-- both bounds among what lies between them, as in SQL
abbrev pub inclusive : BetweenOptions
inclusive = record {
  lower_strict = NonStrict;
  upper_strict = NonStrict;
}

-- an admitted value of which Between has that truth value
pub record IsTold (r : RangeView) (lower upper : Value) (told : Bool) : Type 0 where
  pub value : Value
  pub valid : is_null value ≡ false
  pub admitted : may_be r value ≡ true
  pub is : between_value inclusive lower value upper ≡ truth told

-- Between two literals in order, either truth value that is left open is that of some value. Of
-- bounds that are not in order the range leaves true open, and no value has it.
abbrev pub BetweensAreReached : Type 0
BetweensAreReached =
    (r : RangeView) (low high lower upper : Value) → HasTwoEnds r low high
    → is_null lower ≡ false → is_null upper ≡ false → is_above lower upper ≡ false
    → (told : Bool) → may_be (betweenness inclusive (only lower) r (only upper)) (truth told) ≡ true
    → IsTold r lower upper told
