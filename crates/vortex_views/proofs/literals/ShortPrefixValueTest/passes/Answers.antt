use Rattle.std.proofs.Common.{◌∙◌, ◌/◌, ◌-◌, ◌^◌, ap, subst, length}
use Rattle.vortex_views.specs.BorrowedValue.{row_value}
use Rattle.vortex_views.proofs.Digits.{AreBytes}
use Rattle.vortex_views.proofs.Telling.{short_front}
use Rattle.vortex_views.proofs.literals.ShortPrefixValueTest.passes.Goals as goal

pub returns : goal.returns
returns c =
    let literal = c.args.self.now.literal.now in
    short_front (row_value c.args.row.now) literal c.value_len.result
    c.first_of_four-first.result c.args.self.now.first
    (subst AreBytes c.value_bytes.ensures c.learn_bytes.ensures) c.learn_bytes-2.ensures
    c.args.self.now.short c.value_len.ensures
    (c.first_of_four-first.ensures
    ∙ ap (λ w. w / 256 ^ (4 - length literal)) c.order_prefix.ensures)
    c.args.self.now.first_is
