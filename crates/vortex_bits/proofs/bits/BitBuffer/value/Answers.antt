use Rattle.std.proofs.Common.{◌<◌, ◌+◌, ◌/◌, ◌%◌, ℕ, length, slice_index, nat_eq, ap, ◌∙◌, arith}
use Rattle.std.proofs.lemmas.Nat.Bits.{shr_and_one}
use Rattle.std.proofs.lemmas.List.{get_or_read}
use Rattle.vortex_bits.specs.Bits.{bit}
use Rattle.vortex_bits.proofs.Opened.{opened_len, opened_value, byte_is, place_is}
use Rattle.vortex_bits.proofs.bits.BitBuffer.value.Goals as goal

pub index-requires : goal.index-requires
index-requires c =
    let a = c.self.inside in
    let same = byte_is a.offset c.args.i in
    let count = opened_len a.bytes.items a.offset a.len _ c.self.view_is in
    omega (arith, count, a.bytes.ok.0)

pub returns : goal.returns
returns c =
    let a = c.self.inside in
    let o = a.offset in
    let i = c.args.i in
    let byte : ℕ = o / 8 + i / 8 + (o % 8 + i % 8) / 8 in
    let place : ℕ = (o % 8 + i % 8) % 8 in
    let count = opened_len a.bytes.items a.offset a.len _ c.self.view_is in
    let within : byte < length a.bytes.items = omega (arith, byte_is o i, count) in
    ap (λ n. nat_eq n 1) (shr_and_one c.index.result.now place)
    ∙ (λ n. bit (get_or_read a.bytes.items _ _ within c.index.ensures 0 n) place)
    ∙ (λ n. bit (slice_index a.bytes.items (byte_is o i n)) (place_is o i n))
    ∙ opened_value a.bytes.items o a.len _ c.self.view_is i c.requires
