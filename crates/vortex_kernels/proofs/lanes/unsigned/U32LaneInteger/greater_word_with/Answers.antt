use Rattle.std.proofs.Common.{w32, ltb}
use Rattle.std.specs.Ordering.{is_gt}
use Rattle.vortex_kernels.proofs.LaneMasks.{unsigned_rows_with, greater_unsigned, masked, turned}
use Rattle.vortex_kernels.proofs.lanes.unsigned.U32LaneInteger.greater_word_with.Goals as goal

pub returns : goal.returns
returns c =
    unsigned_rows_with (λ a b. ltb b a) is_gt greater_unsigned
    (turned ltb (masked w32 ltb))
    c.args.left.now c.args.right c.requires
