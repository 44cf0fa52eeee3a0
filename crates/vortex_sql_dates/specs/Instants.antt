-- A timestamp as the day that it is in and the microseconds of that day before it.
use Rattle.std.specs.Prelude.{ℕ, ℤ, pos, unsigned_abs}
use Rattle.std.specs.Int.{int_div_euclid, int_rem_euclid}

abbrev pub day_of : ℤ → ℤ
day_of z = int_div_euclid z (pos 86_400_000_000)

abbrev pub time_of : ℤ → ℕ
time_of z = unsigned_abs (int_rem_euclid z (pos 86_400_000_000))
