use Rattle.std.specs.Float.{float_zero}
use lib.Ieee.{lt}
use Rattle.yurkije_lent.proofs.FloatWords.{lanes_fit, half_size, half_each}
use Rattle.yurkije_lent.proofs.float_words.less_half.Goals as goal

pub overflow_cast-result : goal.overflow_cast-result
overflow_cast-result c = lanes_fit lt _ _

pub returns-clause-size : goal.returns-clause-size
returns-clause-size c =
    half_size lt c.args.left.now c.args.right.now c.requires.left c.requires.right

pub returns-clause-each : goal.returns-clause-each
returns-clause-each c =
    half_each lt c.args.left.now c.args.right.now c.requires.left c.requires.right float_zero
