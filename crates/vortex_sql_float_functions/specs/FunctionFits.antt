-- The result of each function is a float of 64 bits.
use Rattle.std.specs.Prelude.{ℕ, zero, suc, true, false}
use Rattle.std.specs.Float.{Float, nan, inf, fin, binary64, float_zero, round_with}
use Rattle.std.specs.Float.{float_with_sign, float_signum}
use Rattle.std.proofs.Common.{T}
use lib.Ieee.{fits, eq}
use lib.Ieee.Fits.{cond-fits, nan-fits, inf-fits, round-fits, sqrt-fits}
use Rattle.vortex_sql_float_functions.specs.declared.functions.FloatFunction.{FloatFunction}
use Rattle.vortex_sql_float_functions.specs.declared.functions.FloatFunction.TheVariants as function
use Rattle.vortex_sql_float_functions.specs.FloatFunctions.{applied}

whole_fits : (p q : ℕ → ℕ → ℕ) (x : Float) → T (fits binary64 (round_with p q binary64 x))
unfolding round_with
whole_fits p q nan = nan-fits binary64
whole_fits p q (inf s) = inf-fits binary64 s
whole_fits p q (fin false m e) = round-fits binary64 false _ 1
whole_fits p q (fin true m e) = round-fits binary64 true _ 1

size_fits : (x : Float) → T (fits binary64 x) → T (fits binary64 (float_with_sign false x))
unfolding fits float_with_sign
size_fits nan h = tt
size_fits (inf s) h = tt
size_fits (fin s zero e) h = h
size_fits (fin s (suc m) e) h = h

signum_fits : (x : Float) → T (fits binary64 (float_signum x))
unfolding fits float_signum
signum_fits nan = tt
signum_fits (inf s) = tt
signum_fits (fin s m e) = tt

zero_fits : T (fits binary64 float_zero)
unfolding fits
zero_fits = tt

pub applied_fits : (f : FloatFunction) (x : Float) → T (fits binary64 x)
    → T (fits binary64 (applied f x))
applied_fits function.Round x h = whole_fits _ _ x
applied_fits function.Floor x h = whole_fits _ _ x
applied_fits function.Ceil x h = whole_fits _ _ x
applied_fits function.Trunc x h = whole_fits _ _ x
applied_fits function.Sqrt x h = sqrt-fits binary64 x
applied_fits function.Abs x h = size_fits x h
applied_fits function.Sign x h =
    cond-fits binary64 (eq x float_zero) float_zero (float_signum x) zero_fits (signum_fits x)
