use Rattle.vortex_kernels.proofs.WordComparisons.{lt_word}
use Rattle.vortex_kernels.proofs.comparisons.IsLessWordFormula.of_words.Goals as goal

pub returns : goal.returns
returns c = lt_word c.args.left c.args.right c.ranges.left.fits c.ranges.right.fits
