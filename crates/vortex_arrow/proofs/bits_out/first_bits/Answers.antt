use Rattle.vortex_bits.proofs.WordLogic.{mask_first, mask_above}
use Rattle.vortex_arrow.proofs.bits_out.first_bits.Goals as goal

pub returns-then-count-lt64 : goal.returns-then-count-lt64
returns-then-count-lt64 c = record {
  first = λ j lt. mask_first c.args.word c.args.count j c.if-count-lt64.true lt;
  above = λ j le lt. mask_above c.args.word c.args.count j c.if-count-lt64.true le;
}
