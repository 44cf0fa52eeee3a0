use Rattle.std.proofs.Common.{◌∙◌, sym}
use Rattle.yurkije_lent.proofs.FloatOrders.{held_at_most, held_at_least, held_level, held_unlike}
use Rattle.yurkije_lent.proofs.FloatOrders.{held_above}
use Rattle.yurkije_lent.proofs.float_words.floats_hold.Goals as goal

pub returns-then-holds-2 : goal.returns-then-holds-2
returns-then-holds-2 g c =
    held_at_most g.P.Comparison.operator c.args.left.now c.args.right.now c.requires.left_numbers
    c.requires.right_numbers c.less_word.result c.less_word.type_inv
    (sym c.holds.ensures ∙ c.if-holds.true) (sym c.holds-then-holds.ensures ∙ c.if-holds-2.true)
    c.less_word.ensures

pub returns-then-holds-3 : goal.returns-then-holds-3
returns-then-holds-3 g c =
    held_at_least g.P.Comparison.operator c.args.left.now c.args.right.now c.requires.left_numbers
    c.requires.right_numbers c.less_word-then-holds-3.result c.less_word-then-holds-3.type_inv
    (sym c.holds.ensures ∙ c.if-holds.true)
    (sym c.holds-then-holds-2.ensures ∙ c.if-holds-3.true) c.less_word-then-holds-3.ensures

pub returns-then-holds : goal.returns-then-holds
returns-then-holds g c =
    held_level g.P.Comparison.operator c.args.left.now c.args.right.now c.requires.left_numbers
    c.requires.right_numbers c.equal_word.result (sym c.holds.ensures ∙ c.if-holds.true)
    (sym c.holds-then-holds.ensures ∙ c.if-holds-2.false)
    (sym c.holds-then-holds-2.ensures ∙ c.if-holds-3.false) c.equal_word.ensures

pub returns-then-holds-5 : goal.returns-then-holds-5
returns-then-holds-5 g c =
    held_unlike g.P.Comparison.operator c.args.left.now c.args.right.now c.requires.left_numbers
    c.requires.right_numbers c.equal_word-then-holds-5.result c.equal_word-then-holds-5.type_inv
    (sym c.holds.ensures ∙ c.if-holds.false) (sym c.holds-2.ensures ∙ c.if-holds-4.true)
    (sym c.holds-then-holds-4.ensures ∙ c.if-holds-5.true) c.equal_word-then-holds-5.ensures

pub returns : goal.returns
returns g c =
    held_above g.P.Comparison.operator c.args.left.now c.args.right.now c.requires.left_numbers
    c.requires.right_numbers c.less_word-2.result (sym c.holds.ensures ∙ c.if-holds.false)
    (sym c.holds-2.ensures ∙ c.if-holds-4.false) c.less_word-2.ensures
