use Rattle.std.proofs.Common.{◌∙◌, arith}
use Rattle.std.proofs.lemmas.List.{length-set}
use Rattle.yurkije_lent.proofs.FloatSides.{put_more, read_at}
use Rattle.yurkije_lent.proofs.float_lanes.copy_of.Goals as goal

pub loop-j-preserved : goal.loop-j-preserved
loop-j-preserved g c =
    let xs = c.args.values.now in
    let j = c.loop-j.j in
    let read = c.index-values-j in
    let f = g.T.NativePType.number in
    record {
      count = length-set c.loop-j.copy j read.result ∙ c.loop-j.invariant.count;
      each = put_more f f c.loop-j.copy xs j read.result
          (omega (arith, c.loop-j.invariant.count)) c.loop-j.invariant.each
          (read_at f xs j read.result (omega (arith, c.requires)) read.is);
    }
