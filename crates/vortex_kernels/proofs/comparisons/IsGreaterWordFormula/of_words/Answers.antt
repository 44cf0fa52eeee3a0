use Rattle.vortex_kernels.proofs.WordComparisons.{gt_word}
use Rattle.vortex_kernels.proofs.comparisons.IsGreaterWordFormula.of_words.Goals as goal

pub returns : goal.returns
returns c = gt_word c.args.left c.args.right c.ranges.left.fits c.ranges.right.fits
