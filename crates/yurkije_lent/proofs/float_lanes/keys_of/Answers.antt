use Rattle.std.proofs.Common.{◌∙◌, arith}
use Rattle.std.proofs.lemmas.List.{length-set}
use Rattle.yurkije_lent.proofs.FloatSides.{put_more, read_at}
use Rattle.yurkije_lent.proofs.float_lanes.keys_of.Goals as goal

pub loop-j-preserved : goal.loop-j-preserved
loop-j-preserved g c =
    let xs = c.args.patterns.now in
    let j = c.loop-j.j in
    let read = c.index-patterns-j in
    record {
      count = length-set c.loop-j.keys j c.key_of.result ∙ c.loop-j.invariant.count;
      each = put_more g.T.NativePType.number g.T.FloatLane.key c.loop-j.keys xs j c.key_of.result
          (omega (arith, c.loop-j.invariant.count)) c.loop-j.invariant.each
          (c.key_of.ensures
          ∙ read_at g.T.FloatLane.key xs j read.result (omega (arith, c.requires)) read.is);
    }
