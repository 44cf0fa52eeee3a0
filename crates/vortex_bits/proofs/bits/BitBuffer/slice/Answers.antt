use Rattle.std.proofs.Common.{◌≡◌, ◌∙◌, ℕ, ◌+◌, ◌-◌, ◌*◌, ◌/◌, ◌%◌, ap, arith, drop, length}
use Rattle.std.proofs.lemmas.List.{length-drop}
use Rattle.vortex_bits.specs.Bits.{bit_of}
use Rattle.vortex_bits.proofs.Opened.{opened_len, opened_value, byte_is, place_is, bit_of_rest}
use Rattle.vortex_bits.proofs.Opened.{count_of_bits, row_of_bits}
use Rattle.vortex_bits.proofs.bits.BitBuffer.slice.Goals as goal

pub bytes_from-requires : goal.bytes_from-requires
bytes_from-requires c =
    let a = c.self.inside in
    let count = opened_len a.bytes.items a.offset a.len _ c.self.view_is in
    omega (arith, byte_is a.offset c.args.from, count, ap length c.deref.ensures.value)

pub new-requires-clause-room : goal.new-requires-clause-room
new-requires-clause-room c =
    let a = c.self.inside in
    let count = opened_len a.bytes.items a.offset a.len _ c.self.view_is in
    let at : ℕ = a.offset / 8 + c.args.from / 8 + (a.offset % 8 + c.args.from % 8) / 8 in
    let left : length c.bytes_from.result.now ≡ length c.deref.result.now - at =
    ap length c.bytes_from.ensures ∙ length-drop at c.deref.result.now in
    omega (arith, byte_is a.offset c.args.from, count, ap length c.deref.ensures.value, left)

pub returns : goal.returns
returns c =
    let a = c.self.inside in
    let at : ℕ = a.offset / 8 + c.args.from / 8 + (a.offset % 8 + c.args.from % 8) / 8 in
    let shift : ℕ = (a.offset % 8 + c.args.from % 8) % 8 in
    let view = c.bytes_from.result.now in
    let count = opened_len a.bytes.items a.offset a.len _ c.self.view_is in
    let rest = c.bytes_from.ensures ∙ (λ k. drop at (c.deref.ensures.value k)) in
    rw c.new.ensures
    (record {
      count = count_of_bits view shift c.args.len;
      each = λ i lt.
          let place : 8 * at + (shift + i) ≡ a.offset + (c.args.from + i) =
          omega (arith, byte_is a.offset c.args.from, place_is a.offset c.args.from) in
          row_of_bits view shift c.args.len i lt
          ∙ bit_of_rest a.bytes.items view at (shift + i) rest
          ∙ ap (λ p. bit_of a.bytes.items p) place
          ∙ opened_value a.bytes.items a.offset a.len _ c.self.view_is (c.args.from + i)
          (omega (arith, c.requires));
    })
