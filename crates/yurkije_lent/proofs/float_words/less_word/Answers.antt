use Rattle.std.proofs.Common.{◌≡◌, ◌∙◌, sym, List, length, take, arith}
use Rattle.std.proofs.lemmas.List.{length-take, length-drop}
use Rattle.std.specs.Float.{Float, float_zero}
use lib.Ieee.{lt}
use Rattle.yurkije_lent.proofs.FloatWords.{halves, half_taken}
use Rattle.yurkije_lent.proofs.float_words.less_word.Goals as goal

pub slice_bounds-less_half-end : goal.slice_bounds-less_half-end
slice_bounds-less_half-end c = sym (half_taken c.args.left.now c.requires.left)

pub slice_bounds-less_half-end-2 : goal.slice_bounds-less_half-end-2
slice_bounds-less_half-end-2 c = sym (half_taken c.args.right.now c.requires.right)

pub less_half-low-requires-clause-left : goal.less_half-low-requires-clause-left
less_half-low-requires-clause-left c = half_taken c.args.left.now c.requires.left

pub less_half-low-requires-clause-right : goal.less_half-low-requires-clause-right
less_half-low-requires-clause-right c = half_taken c.args.right.now c.requires.right

pub returns : goal.returns
returns c =
    halves lt float_zero c.args.left.now c.args.right.now c.requires.left c.requires.right
    c.less_half-low.result c.less_half-high.result c.less_half-low.ensures.size
    c.less_half-high.ensures.size c.less_half-low.ensures.each c.less_half-high.ensures.each
