use Rattle.std.proofs.Common.{w16, ltb}
use Rattle.std.specs.Ordering.{is_lt}
use Rattle.vortex_kernels.proofs.LaneMasks.{unsigned_rows, less_unsigned, masked}
use Rattle.vortex_kernels.proofs.lanes.unsigned.U16LaneInteger.less_word.Goals as goal

pub returns : goal.returns
returns c =
    unsigned_rows ltb is_lt less_unsigned
    (masked w16 ltb)
    c.args.left.now c.args.right.now c.requires.left c.requires.right
