-- Floats in a caller's buffers: their patterns, as integers of the same size. A column has their
-- keys, which are in the order of the floats.
use Rattle.std.specs.Prelude.{ℤ}
use Rattle.vortex_types.specs.Values.{Value, null, truth, number, text, bytes, list}
unfoldable pub use Rattle.vortex_float_bits.specs.FloatBits.{wide_key, narrow_key}
unfoldable pub use Rattle.vortex_float_bits.specs.FloatBits.{wide_pattern, narrow_pattern}

-- a value with another number, if it is one
abbrev pub with_number : (ℤ → ℤ) → Value → Value
with_number f null = null
with_number f (truth b) = truth b
with_number f (number z) = number (f z)
with_number f (text bs) = text bs
with_number f (bytes bs) = bytes bs
with_number f (list vs) = list vs
