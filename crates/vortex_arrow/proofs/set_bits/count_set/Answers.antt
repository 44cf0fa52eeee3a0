use Rattle.std.proofs.Common.{◌≡◌, ◌+◌, ◌*◌, ◌-◌, ◌/◌, ◌∙◌, sym, ap, length, arith}
use Rattle.vortex_bits.specs.Bits.{bit}
use Rattle.vortex_arrow.specs.Written.{places}
use Rattle.vortex_arrow.proofs.Lowest.{ones_are_places}
use Rattle.vortex_arrow.proofs.Numbered.{count_more}
use Rattle.vortex_arrow.proofs.Places.{at_most, no_places}
use Rattle.vortex_arrow.proofs.set_bits.count_set.Goals as goal

pub returns-then-count-eq0 : goal.returns-then-count-eq0
returns-then-count-eq0 g c =
    let test = g.W.BitWords.row_bit c.args.rows.now in
    let none : 0 ≡ c.args.count = omega arith in
    sym (ap length (no_places test)) ∙ ap (λ n. length (places test n)) none

pub loop-k-init : goal.loop-k-init
loop-k-init g c = sym (ap length (no_places (g.W.BitWords.row_bit c.args.rows.now)))

pub overflow_add-set : goal.overflow_add-set
overflow_add-set g c =
    let test = g.W.BitWords.row_bit c.args.rows.now in
    let word = c.word.result in
    omega (
      arith,
      c.loop-k.invariant,
      at_most test (64 * c.loop-k.k),
      ones_are_places word c.word.type_inv,
      at_most (bit word) 64,
    )

pub loop-k-preserved : goal.loop-k-preserved
loop-k-preserved g c =
    let test = g.W.BitWords.row_bit c.args.rows.now in
    let k = c.loop-k.k in
    let word = c.word.result in
    let next : 64 * (k + 1) ≡ 64 * k + 64 = omega arith in
    omega (
      arith,
      ap (λ n. length (places test n)) next,
      count_more test (64 * k) 64 word (omega arith) c.word.ensures
          (λ j le lt. absurd (omega (arith, le, lt))),
      ones_are_places word c.word.type_inv,
      c.loop-k.invariant,
    )

pub overflow_add-result : goal.overflow_add-result
overflow_add-result g c =
    let test = g.W.BitWords.row_bit c.args.rows.now in
    let whole = (c.args.count - 1) / 64 in
    let rest = c.args.count - 64 * whole in
    let word = c.first_bits-last.result in
    let through : c.loop-k.k ≡ whole = omega arith in
    let all : 64 * whole + rest ≡ c.args.count = omega arith in
    omega (
      arith,
      ap (λ n. length (places test n)) all,
      ap (λ n. length (places test (64 * n))) through,
      count_more test (64 * whole) rest word (omega arith)
          (λ j lt. c.first_bits-last.ensures.first j lt ∙ c.last.ensures j lt)
          c.first_bits-last.ensures.above,
      ones_are_places word c.first_bits-last.type_inv,
      c.loop-k.invariant,
      at_most test c.args.count,
    )

pub returns : goal.returns
returns g c =
    let test = g.W.BitWords.row_bit c.args.rows.now in
    let whole = (c.args.count - 1) / 64 in
    let rest = c.args.count - 64 * whole in
    let word = c.first_bits-last.result in
    let through : c.loop-k.k ≡ whole = omega arith in
    let all : 64 * whole + rest ≡ c.args.count = omega arith in
    omega (
      arith,
      ap (λ n. length (places test n)) all,
      ap (λ n. length (places test (64 * n))) through,
      count_more test (64 * whole) rest word (omega arith)
          (λ j lt. c.first_bits-last.ensures.first j lt ∙ c.last.ensures j lt)
          c.first_bits-last.ensures.above,
      ones_are_places word c.first_bits-last.type_inv,
      c.loop-k.invariant,
    )
