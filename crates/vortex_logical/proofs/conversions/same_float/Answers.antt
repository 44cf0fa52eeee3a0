use Rattle.std.proofs.Common.{◌≡◌, ◌∙◌, refl, sym, subst, false, T}
use Rattle.std.specs.Prelude.{not}
use lib.Ieee.{Float, nan, inf, fin, binary64, fits, is_nan, ne, of_bits}
use lib.Ieee.Fits.{and_i, fits_widens}
use lib.Ieee.Compare.{differs_from_itself}
use mathlib.Core.Bool.{true≢false}
use Rattle.vortex_logical.proofs.conversions.same_float.Goals as goal

equals_itself : (x : Float) → ne x x ≡ false → T (not (is_nan x))
unfolding ne is_nan
equals_itself nan h = absurd (true≢false h)
equals_itself (inf s) h = tt
equals_itself (fin s m e) h = tt

nan_bits : of_bits binary64 9221120237041090560 ≡ nan
unfolding of_bits
nan_bits = refl

pub float_to_float-result : goal.float_to_float-result
float_to_float-result c =
    let x = c.args.float in
    and_i (fits binary64 x) (not (is_nan x)) (fits_widens x c.row_known-1.given) (equals_itself x c.if-float.false)

pub returns-then-float : goal.returns-then-float
returns-then-float c =
    c.f64_from_bits_with_nan.ensures ∙ nan_bits
    ∙ sym (differs_from_itself c.args.float (subst T (sym c.if-float.true) tt))
