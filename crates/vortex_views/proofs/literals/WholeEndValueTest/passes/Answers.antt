use Rattle.std.proofs.Common.{◌-◌, ◌∙◌, ap, subst, length, drop, arith}
use Rattle.std.proofs.lemmas.List.{take_all, length-drop}
use Rattle.std.specs.Str.{bytes_eq}
use Rattle.vortex_views.specs.BorrowedValue.{row_value}
use Rattle.vortex_views.specs.ViewBytes.{view_bytes}
use Rattle.vortex_views.proofs.Digits.{AreBytes}
use Rattle.vortex_views.proofs.Telling.{too_short_end, inlined_end}
use Rattle.vortex_views.proofs.literals.WholeEndValueTest.passes.Goals as goal

pub returns-then-len-self : goal.returns-then-len-self
returns-then-len-self c =
    too_short_end (row_value c.args.row.now) c.args.self.now.literal.now
    (omega (arith, c.if-len-self.true, c.value_len-len.ensures))

pub returns-then-is_inlined : goal.returns-then-is_inlined
returns-then-is_inlined c =
    let literal = c.args.self.now.literal.now in
    let value = row_value c.args.row.now in
    let size = c.value_len-len.ensures in
    inlined_end value literal (c.value_len-len.result - length literal) c.inlined_from.result
    c.args.self.now.number (view_bytes c.view-view.result.now)
    (subst AreBytes c.value_bytes.ensures c.learn_bytes.ensures) c.learn_bytes-2.ensures
    c.view-view.ensures (c.is_inlined.ensures.0 c.if-is_inlined.true)
    (omega (arith, c.if-len-self.false, size)) (ap (λ n. n - length literal) size)
    c.inlined_from.ensures c.args.self.now.number_is

pub returns : goal.returns
returns c =
    let literal = c.args.self.now.literal.now in
    let value = row_value c.args.row.now in
    let own = c.value_bytes-2.result.now in
    let borrowed = c.value_bytes-2.ensures in
    let at = c.value_len-len.result - length literal in
    c.eq.ensures
    ∙ ap (λ z. bytes_eq literal z)
    (take_all (length own - at) (drop at own) (omega (arith, length-drop at own))
    ∙ ap (λ z. drop at z) borrowed
    ∙ ap (λ n. drop (n - length literal) value) c.value_len-len.ensures)
