use Rattle.vortex_kernels.proofs.FieldOrders.{chosen_bit}
use Rattle.vortex_kernels.proofs.validity_words.chosen_word.Goals as goal

pub returns : goal.returns
returns c = λ j lt. chosen_bit c.args.by c.args.set c.args.unset j c.ranges.by.fits lt
