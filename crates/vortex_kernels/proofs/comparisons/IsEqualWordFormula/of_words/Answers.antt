use Rattle.vortex_kernels.proofs.WordComparisons.{eq_word}
use Rattle.vortex_kernels.proofs.comparisons.IsEqualWordFormula.of_words.Goals as goal

pub returns : goal.returns
returns c = eq_word c.args.left c.args.right c.ranges.left.fits c.ranges.right.fits
