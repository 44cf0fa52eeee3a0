use Rattle.vortex_kernels.proofs.WordComparisons.{gte_word}
use Rattle.vortex_kernels.proofs.comparisons.IsGreaterOrEqualWordFormula.of_words.Goals as goal

pub returns : goal.returns
returns c = gte_word c.args.left c.args.right c.ranges.left.fits c.ranges.right.fits
