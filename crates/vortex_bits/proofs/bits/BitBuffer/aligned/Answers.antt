use Rattle.std.proofs.Common.{◌≡◌, ◌∙◌, ◌+◌, ◌*◌, ◌/◌, ◌<◌, ap, arith, drop, length}
use Rattle.vortex_bits.specs.Bits.{bit_of}
use Rattle.vortex_bits.proofs.Opened.{row_of_rest, rest_is_there}
use Rattle.vortex_bits.proofs.bits.BitBuffer.aligned.Goals as goal

pub returns-then-self-eq0 : goal.returns-then-self-eq0
returns-then-self-eq0 c =
    let a = c.self.inside in
    let b = c.new.result in
    let whole : 8 * (a.offset / 8) + 0 ≡ a.offset = omega (arith, c.if-self-eq0.true) in
    let rest : b.bytes.now ≡ drop (a.offset / 8) a.bytes.items =
    c.new.ensures ∙ c.bytes_from.ensures ∙ (λ k. drop (a.offset / 8) (c.deref.ensures.value k)) in
    record {
      there = λ i lt.
          let same : 0 + i < 8 * length b.bytes.now =
          rest_is_there a.bytes.items b.bytes.now a.offset a.len (a.offset / 8) 0 _
          c.self.view_is rest whole c.self.invariant i lt in
          omega (arith, same);
      each = λ i lt.
          let same : i ≡ 0 + i = omega arith in
          ap (bit_of b.bytes.now) same
          ∙ row_of_rest a.bytes.items b.bytes.now a.offset a.len (a.offset / 8) 0 _
          c.self.view_is rest whole i lt;
    }
