-- The bytes of the options of Binary and Between, and what byte strings are read as.
use Rattle.std.specs.Prelude.{ℕ, List, [], ◌∷◌, Option}
use Rattle.vortex_errors.specs.OptionBytes.{read_among, two_bits}
use Rattle.vortex_operators.specs.declared.operators.Operator.{Operator}
use Rattle.vortex_operators.specs.declared.between.BetweenOptions.{BetweenOptions}
use Rattle.vortex_operators.specs.declared.between.StrictComparison.{StrictComparison}
use Rattle.vortex_operators.specs.declared.between.StrictComparison.TheVariants.{Strict, NonStrict}
use Rattle.vortex_operators.specs.Operators.{all_operators}
use Rattle.vortex_operators.specs.Places.{place_of}
use Rattle.vortex_operators.specs.Between.{is_strict}

-- one byte: the operator's index in the table
abbrev pub operator_bytes : Operator → List ℕ
operator_bytes operator = place_of operator ∷ []

abbrev pub operator_read : List ℕ → Option Operator
operator_read = read_among operator_bytes all_operators

-- one byte: bit 0 where the lower bound is strict, bit 1 where the upper is
abbrev pub between_bytes : BetweenOptions → List ℕ
between_bytes options =
    two_bits (is_strict options.lower_strict) (is_strict options.upper_strict) ∷ []

abbrev bounds : StrictComparison → StrictComparison → BetweenOptions
bounds lower upper = record { lower_strict = lower; upper_strict = upper }

abbrev pub all_bounds : List BetweenOptions
all_bounds =
    bounds NonStrict NonStrict ∷ bounds Strict NonStrict ∷ bounds NonStrict Strict
    ∷ bounds Strict Strict ∷ []

abbrev pub between_read : List ℕ → Option BetweenOptions
between_read = read_among between_bytes all_bounds
