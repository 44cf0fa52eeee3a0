-- Floats of 64 and of 32 bits: their patterns, and how their texts are laid out.
use Rattle.std.specs.Prelude.{ℕ}
use Rattle.vortex_logical.specs.declared.kind.Kind.{Kind}
use Rattle.vortex_logical.specs.declared.kind.Kind.TheVariants as kind
use Rattle.vortex_float_texts.specs.declared.width.Width.{Width}
use Rattle.vortex_float_texts.specs.declared.width.Width.TheVariants.{F64, F32}

abbrev pub kind_of : Width → Kind
kind_of F64 = kind.F64
kind_of F32 = kind.F32

-- the pattern of the infinity
abbrev pub infinity : Width → ℕ
infinity F64 = 9218868437227405312
infinity F32 = 2139095040

-- the least pattern with a significand of all its bits, which is 2 to the power of the others
abbrev pub hidden : Width → ℕ
hidden F64 = 4503599627370496
hidden F32 = 8388608

-- how much larger the least exponent is than that of 64 bits
abbrev pub least : Width → ℕ
least F64 = 0
least F32 = 925

-- how many digits stand before a point, and how many zeros after it, at most, without an exponent
abbrev pub whole_digits : Width → ℕ
whole_digits F64 = 16
whole_digits F32 = 13

abbrev pub leading_zeros : Width → ℕ
leading_zeros F64 = 4
leading_zeros F32 = 5

-- how many digits are left out, at most
abbrev pub places : Width → ℕ
places F64 = 18
places F32 = 10
