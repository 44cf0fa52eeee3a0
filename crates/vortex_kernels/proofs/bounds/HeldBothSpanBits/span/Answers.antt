use Rattle.std.proofs.Common.{◌∙◌}
use Rattle.std.specs.Prelude.{◌&&◌}
use Rattle.vortex_bits.proofs.WordLogic.{and_bit}
use Rattle.vortex_kernels.proofs.bounds.HeldBothSpanBits.span.Goals as goal

pub returns : goal.returns
returns g c = λ j lt.
    and_bit c.hold_from.result c.hold_from-2.result j
    ∙ (λ i. c.hold_from.ensures j lt i && c.hold_from-2.ensures j lt i)
