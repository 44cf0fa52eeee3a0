use Rattle.std.proofs.Common.{◌≡◌, ℕ, ◌+◌, ◌*◌, ◌/◌, ◌<◌, ◌≤◌, sym, arith}
use Rattle.fast_float.specs.Powers.{power_num, power_den}
use Rattle.vortex_float_texts.specs.Scaled.{row_at}
use Rattle.vortex_float_texts.proofs.scaled.row_at.Goals as goal

quotient : (t n d : ℕ) → t * d ≤ n → n < (t + 1) * d → n / d ≡ t
quotient t n d from below = grind arith

pub returns : goal.returns
unfolding row_at
returns c =
    sym (quotient _ (power_num c.args.index) (power_den c.args.index) c.power_of_ten.ensures.from c.power_of_ten.ensures.below)
