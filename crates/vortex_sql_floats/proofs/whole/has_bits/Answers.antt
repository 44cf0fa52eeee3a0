use Rattle.std.proofs.Common.{◌∙◌, sym}
use Rattle.std.specs.Prelude.{◌&&◌}
use Rattle.std.specs.Float.{two_to}
use lib.Ieee.{lt, le}
use Rattle.vortex_sql_floats.proofs.Bounds.{two_64_is, zero_is}
use Rattle.vortex_sql_floats.proofs.whole.has_bits.Goals as goal

pub returns-then-float : goal.returns-then-float
returns-then-float c =
    let x = c.args.float in
    (λ i. lt x (two_64_is i))
    ∙ (λ i. sym (sym (λ j. le (zero_is j) x) ∙ c.if-float.true) i && lt x (two_to 64))
