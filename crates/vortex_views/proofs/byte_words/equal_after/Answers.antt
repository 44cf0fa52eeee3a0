use Rattle.std.proofs.Common.{◌-◌, length, drop, ap, sym, ◌∙◌, arith}
use Rattle.std.proofs.lemmas.Bool.{eq-eqb, eqb-true}
use Rattle.std.specs.Int.{w64, from_be_bytes}
use Rattle.vortex_views.specs.ViewBytes.{padded}
use Rattle.vortex_views.proofs.Digits.{are_bytes}
use Rattle.vortex_views.proofs.ByteOrder.{eight_more, all_same}
use Rattle.vortex_views.proofs.byte_words.equal_after.Goals as goal

pub loop-at-preserved : goal.loop-at-preserved
loop-at-preserved c = record {
  within = omega arith;
  alike = eight_more c.loop-at.at c.args.a.now c.args.b.now (are_bytes _ c.type_inv.a)
      (are_bytes _ c.type_inv.b)
      (omega arith) (omega arith) c.loop-at.invariant.alike
      (sym c.order_word-left.ensures ∙ c.if-left-right.false ∙ c.order_word-right.ensures);
}

pub returns : goal.returns
returns c = (
  (λ h. all_same c.loop-at.at (length c.args.a.now - 8) c.args.a.now c.args.b.now
      (are_bytes _ c.type_inv.a) (are_bytes _ c.type_inv.b) c.requires.lengths (omega arith)
      (omega arith)
      c.loop-at.invariant.alike
      (sym c.order_word-last_left.ensures
      ∙ eqb-true c.order_word-last_left.result c.order_word-last_right.result h
      ∙ c.order_word-last_right.ensures)),
  (λ s. eq-eqb c.order_word-last_left.result c.order_word-last_right.result
      (c.order_word-last_left.ensures
      ∙ ap (λ z. from_be_bytes w64 (padded 8 (drop (length c.args.a.now - 8) z))) s
      ∙ sym c.order_word-last_right.ensures)),
)
