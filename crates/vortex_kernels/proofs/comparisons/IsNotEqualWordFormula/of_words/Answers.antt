use Rattle.vortex_kernels.proofs.WordComparisons.{not_eq_word}
use Rattle.vortex_kernels.proofs.comparisons.IsNotEqualWordFormula.of_words.Goals as goal

pub returns : goal.returns
returns c = not_eq_word c.args.left c.args.right c.ranges.left.fits c.ranges.right.fits
