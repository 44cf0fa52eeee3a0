use Rattle.std.proofs.Common.{◌≡◌, ◌∙◌, ◌+◌, ◌*◌, ◌/◌, ◌<◌, arith, drop}
use Rattle.vortex_bits.proofs.Opened.{row_of_rest, rest_is_there}
use Rattle.vortex_bits.proofs.bits.BitBuffer.shifted.Goals as goal

pub returns : goal.returns
returns c =
    let a = c.self.inside in
    let b = c.new.result in
    let small : b.shift < 8 = omega (arith, c.new.ensures.shift) in
    let whole : 8 * (a.offset / 8) + b.shift ≡ a.offset = omega (arith, c.new.ensures.shift) in
    let rest : b.bytes.now ≡ drop (a.offset / 8) a.bytes.items =
    c.new.ensures.bytes ∙ c.bytes_from.ensures
    ∙ (λ k. drop (a.offset / 8) (c.deref.ensures.value k)) in
    record {
      there = λ i lt. (
        small,
        rest_is_there a.bytes.items b.bytes.now a.offset a.len (a.offset / 8) b.shift _
            c.self.view_is rest whole c.self.invariant i lt,
      );
      each =
          row_of_rest a.bytes.items b.bytes.now a.offset a.len (a.offset / 8) b.shift _
          c.self.view_is rest whole;
    }
