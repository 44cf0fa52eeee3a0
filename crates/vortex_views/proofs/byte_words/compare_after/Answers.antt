use Rattle.std.proofs.Common.{◌-◌, ◌+◌, length, sym, ◌∙◌, arith}
use Rattle.vortex_views.proofs.Digits.{are_bytes}
use Rattle.vortex_views.proofs.ByteOrder.{eight_more, shorter_start, word_answer, lengths_decide}
use Rattle.vortex_views.proofs.ByteOrder.{shorter_ends}
use Rattle.vortex_views.proofs.byte_words.compare_after.Goals as goal

pub loop-at-preserved : goal.loop-at-preserved
loop-at-preserved c = record {
  a_within = omega arith;
  b_within = omega arith;
  alike = eight_more c.loop-at.at c.args.a.now c.args.b.now (are_bytes _ c.type_inv.a)
      (are_bytes _ c.type_inv.b)
      (omega arith) (omega arith) c.loop-at.invariant.alike
      (sym c.order_word-left.ensures ∙ c.if-left-right.false ∙ c.order_word-right.ensures);
}

pub returns-then-left-right : goal.returns-then-left-right
returns-then-left-right c =
    word_answer c.loop-at.at c.args.a.now c.args.b.now c.cmp.result c.order_word-left.result
    c.order_word-right.result
    (are_bytes _ c.type_inv.a) (are_bytes _ c.type_inv.b) (omega arith) (omega arith)
    c.loop-at.invariant.alike
    c.order_word-left.ensures c.order_word-right.ensures c.if-left-right.true c.cmp.ensures

pub returns-then-last_left-last_right : goal.returns-then-last_left-last_right
returns-then-last_left-last_right c =
    word_answer (c.min-last.result - 8) c.args.a.now c.args.b.now
    c.cmp-then-last_left-last_right.result
    c.order_word-last_left.result c.order_word-last_right.result
    (are_bytes _ c.type_inv.a) (are_bytes _ c.type_inv.b) (omega arith) (omega arith)
    (shorter_start (c.min-last.result - 8) c.loop-at.at c.args.a.now c.args.b.now (omega arith)
    c.loop-at.invariant.alike)
    c.order_word-last_left.ensures c.order_word-last_right.ensures c.if-last_left-last_right.true
    c.cmp-then-last_left-last_right.ensures

pub returns : goal.returns
returns c =
    c.cmp-2.ensures
    ∙ sym (lengths_decide (c.min-last.result - 8 + 8) c.args.a.now c.args.b.now (omega arith)
    (omega arith)
    (shorter_ends (length c.args.a.now) (length c.args.b.now) c.min-last.result c.min-last.ensures
    c.requires.a_room c.requires.b_room)
    (eight_more (c.min-last.result - 8) c.args.a.now c.args.b.now (are_bytes _ c.type_inv.a)
    (are_bytes _ c.type_inv.b) (omega arith) (omega arith)
    (shorter_start (c.min-last.result - 8) c.loop-at.at c.args.a.now c.args.b.now (omega arith)
    c.loop-at.invariant.alike)
    (sym c.order_word-last_left.ensures ∙ c.if-last_left-last_right.false
    ∙ c.order_word-last_right.ensures)))
