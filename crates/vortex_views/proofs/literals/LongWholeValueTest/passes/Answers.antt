use Rattle.std.proofs.Common.{◌≡◌, ◌∙◌, sym, arith}
use Rattle.std.proofs.lemmas.Bool.Decides.{same_from_decides}
use Rattle.std.proofs.lemmas.Slice.Eq.{bytes_eq-Decides}
use Rattle.std.specs.Str.{bytes_eq}
use Rattle.vortex_views.specs.BorrowedValue.{row_value}
use Rattle.vortex_views.specs.ViewBytes.{view_bytes}
use Rattle.vortex_views.proofs.Telling.{other_heads, heads_begin}
use Rattle.vortex_views.proofs.literals.LongWholeValueTest.passes.Goals as goal

pub returns-then-head-self : goal.returns-then-head-self
returns-then-head-self c =
    other_heads _ _ c.args.self.now.literal.now c.view-view.ensures c.args.self.now.most
    (λ e. c.if-head-self.true (c.head.ensures ∙ e ∙ sym c.args.self.now.head_is))

pub equal_after-requires : goal.equal_after-requires
equal_after-requires c =
    let literal = c.args.self.now.literal.now in
    let own = c.value_bytes-value.result.now in
    let begin =
    heads_begin (row_value c.args.row.now) own (view_bytes c.view-view.result.now)
    c.as_bytes.result.now literal c.value_bytes-value.ensures c.as_bytes.ensures.value
    c.view-view.ensures c.learn_bytes.ensures c.learn_bytes-2.ensures c.args.self.now.most
    (sym c.head.ensures ∙ c.if-head-self.false ∙ c.args.self.now.head_is) in
    let long = c.args.self.now.long in
    record {
      lengths = begin.0;
      room = omega (arith, begin.0, long);
      within = omega (arith, begin.0, long);
      alike = c.words_tell_equal_values.ensures.long (omega (arith, begin.0, long))
          (omega (arith, long)) begin.1;
    }

pub returns : goal.returns
returns c =
    let literal = c.args.self.now.literal.now in
    let value = row_value c.args.row.now in
    let borrowed = c.value_bytes-value.ensures in
    same_from_decides c.equal_after.result (bytes_eq literal value) (
      λ yes. sym (c.equal_after.ensures.0 yes) ∙ borrowed,
      λ (same : literal ≡ value). c.equal_after.ensures.1 (borrowed ∙ sym same),
    )
    (bytes_eq-Decides literal value)
