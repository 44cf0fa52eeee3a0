-- A float equals itself unless it is a NaN.
use Rattle.std.proofs.Common.{◌≡◌, ℕ, ◌*◌, Bool, true, false, refl, arith}
use Rattle.std.specs.Prelude.{not}
use Rattle.std.specs.Float.{Float, nan, inf, fin}
use lib.Ieee.{eq, level, up, down, is_nan}

level_self : (s : Bool) (a : ℕ) → level s a s a ≡ true
level_self true a = grind arith
level_self false a = grind arith

pub eq_self : (x : Float) → eq x x ≡ not (is_nan x)
unfolding eq is_nan
eq_self nan = refl
eq_self (inf true) = refl
eq_self (inf false) = refl
eq_self (fin s m e) = level_self s (m * up e * down e)
