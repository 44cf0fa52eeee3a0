use Rattle.vortex_bits.proofs.WordLogic.{not_bit}
use Rattle.vortex_kernels.proofs.kleene.BothKleeneTable.deciding.Goals as goal

pub returns : goal.returns
returns c = λ j lt. not_bit c.args.values j c.ranges.values.fits lt
