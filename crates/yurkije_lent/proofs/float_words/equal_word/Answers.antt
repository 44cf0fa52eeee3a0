use Rattle.std.proofs.Common.{◌≡◌, ◌∙◌, sym, List, length, take, arith}
use Rattle.std.proofs.lemmas.List.{length-take, length-drop}
use Rattle.std.specs.Float.{Float, float_zero}
use lib.Ieee.{eq}
use Rattle.yurkije_lent.proofs.FloatWords.{halves, half_taken}
use Rattle.yurkije_lent.proofs.float_words.equal_word.Goals as goal

pub slice_bounds-equal_half-end : goal.slice_bounds-equal_half-end
slice_bounds-equal_half-end c = sym (half_taken c.args.left.now c.requires.left)

pub slice_bounds-equal_half-end-2 : goal.slice_bounds-equal_half-end-2
slice_bounds-equal_half-end-2 c = sym (half_taken c.args.right.now c.requires.right)

pub equal_half-low-requires-clause-left : goal.equal_half-low-requires-clause-left
equal_half-low-requires-clause-left c = half_taken c.args.left.now c.requires.left

pub equal_half-low-requires-clause-right : goal.equal_half-low-requires-clause-right
equal_half-low-requires-clause-right c = half_taken c.args.right.now c.requires.right

pub returns : goal.returns
returns c =
    halves eq float_zero c.args.left.now c.args.right.now c.requires.left c.requires.right
    c.equal_half-low.result c.equal_half-high.result c.equal_half-low.ensures.size
    c.equal_half-high.ensures.size c.equal_half-low.ensures.each c.equal_half-high.ensures.each
