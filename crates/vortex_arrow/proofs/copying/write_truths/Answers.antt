use Rattle.std.proofs.Common.{sym, ap, ◌∙◌, arith}
use Rattle.vortex_types.specs.Values.{truth}
use Rattle.vortex_arrow.proofs.copying.write_truths.Goals as goal

pub returns-in-None-clause-bits : goal.returns-in-None-clause-bits
returns-in-None-clause-bits c =
    λ i h valid. c.constant_truth.ensures i h valid ∙ ap truth (sym (c.write_same.ensures.bits i (omega (arith, h, c.len.ensures))))
