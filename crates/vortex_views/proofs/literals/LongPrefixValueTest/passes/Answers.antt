use Rattle.std.proofs.Common.{◌≡◌, ◌≤◌, ◌∙◌, ◌/◌, ◌-◌, ◌^◌, ap, subst, sym, length, take, arith}
use Rattle.vortex_views.specs.BorrowedValue.{row_value}
use Rattle.vortex_views.specs.ValueWords.{order_prefix_word}
use Rattle.vortex_views.proofs.Digits.{AreBytes}
use Rattle.vortex_views.proofs.Telling.{too_short, other_prefix, middle_front, front_by}
use Rattle.vortex_views.proofs.literals.LongPrefixValueTest.passes.Goals as goal

pub returns-then-value_len-len : goal.returns-then-value_len-len
returns-then-value_len-len c =
    too_short (row_value c.args.row.now) c.args.self.now.literal.now
    (omega (arith, c.if-value_len-len.true, c.value_len.ensures))

pub returns-then-order_prefix-self : goal.returns-then-order_prefix-self
returns-then-order_prefix-self c =
    other_prefix (row_value c.args.row.now) c.args.self.now.literal.now c.args.self.now.long
    (λ e. c.if-order_prefix-self.true
    (c.order_prefix.ensures ∙ e ∙ sym c.args.self.now.prefix_is))

pub returns-then-len-le12 : goal.returns-then-len-le12
returns-then-len-le12 c =
    let literal = c.args.self.now.literal.now in
    let value = row_value c.args.row.now in
    let borrowed = c.value_bytes.ensures in
    let long = c.args.self.now.long in
    let fits : length literal ≤ length value =
    omega (arith, c.if-value_len-len.false, c.value_len.ensures) in
    let alike : order_prefix_word value ≡ order_prefix_word literal =
    sym c.order_prefix.ensures ∙ c.if-order_prefix-self.false ∙ c.args.self.now.prefix_is in
    let size = ap length borrowed in
    let four : take 4 value ≡ take 4 literal =
    ap (λ z. take 4 z) (sym borrowed)
    ∙ c.words_tell_equal_values.ensures.long (omega (arith, size, fits, long)) (omega (arith, long))
    (ap order_prefix_word borrowed ∙ alike) in
    middle_front value literal c.first_of_eight.result c.first_of_eight-then-len-le12.result
    (subst AreBytes c.value_bytes-2.ensures c.learn_bytes.ensures) c.learn_bytes-2.ensures long
    c.if-len-le12.true fits four
    (c.first_of_eight.ensures
    ∙ ap (λ w. w / 256 ^ (8 - (length literal - 4))) c.order_tail.ensures)
    (c.first_of_eight-then-len-le12.ensures
    ∙ ap (λ w. w / 256 ^ (8 - (length literal - 4))) c.args.self.now.tail_is)

pub returns : goal.returns
returns c =
    let literal = c.args.self.now.literal.now in
    let borrowed = c.value_bytes-3.ensures in
    front_by (row_value c.args.row.now) literal c.begins_after.result
    (λ yes. ap (λ z. take (length literal) z) (sym borrowed) ∙ c.begins_after.ensures.0 yes)
    (λ same. c.begins_after.ensures.1 (ap (λ z. take (length literal) z) borrowed ∙ same))
