use Rattle.std.proofs.Common.{◌∙◌, sym}
use Rattle.std.specs.Prelude.{◌&&◌}
use Rattle.std.specs.Float.{two_to}
use lib.Ieee.{lt, le}
use Rattle.vortex_sql_floats.proofs.Bounds.{two_63_is, minus_63_is}
use Rattle.vortex_sql_floats.proofs.whole.has_sign_bits.Goals as goal

pub returns-then-float : goal.returns-then-float
returns-then-float c =
    let x = c.args.float in
    (λ i. lt x (two_63_is i))
    ∙ (λ i. sym (sym (λ j. le (minus_63_is j) x) ∙ c.if-float.true) i && lt x (two_to 63))

pub returns-else-float : goal.returns-else-float
returns-else-float c =
    let x = c.args.float in
    c.if-float.false
    ∙ (λ i. sym (sym (λ j. le (minus_63_is j) x) ∙ c.if-float.false) i && lt x (two_to 63))
