use Rattle.std.proofs.Common.{w8, ltb}
use Rattle.std.specs.Ordering.{is_lt}
use Rattle.vortex_kernels.proofs.LaneMasks.{unsigned_rows_with, less_unsigned, masked}
use Rattle.vortex_kernels.proofs.lanes.unsigned.U8LaneInteger.less_word_with.Goals as goal

pub returns : goal.returns
returns c =
    unsigned_rows_with ltb is_lt less_unsigned
    (masked w8 ltb)
    c.args.left.now c.args.right c.requires
