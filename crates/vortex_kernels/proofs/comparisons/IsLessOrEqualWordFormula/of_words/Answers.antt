use Rattle.vortex_kernels.proofs.WordComparisons.{lte_word}
use Rattle.vortex_kernels.proofs.comparisons.IsLessOrEqualWordFormula.of_words.Goals as goal

pub returns : goal.returns
returns c = lte_word c.args.left c.args.right c.ranges.left.fits c.ranges.right.fits
