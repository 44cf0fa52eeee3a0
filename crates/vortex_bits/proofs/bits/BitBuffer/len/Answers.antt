use Rattle.vortex_bits.proofs.Opened.{opened_len}
use Rattle.vortex_bits.proofs.bits.BitBuffer.len.Goals as goal

pub returns : goal.returns
returns c =
    let a = c.self.inside in
    opened_len a.bytes.items a.offset a.len _ c.self.view_is
