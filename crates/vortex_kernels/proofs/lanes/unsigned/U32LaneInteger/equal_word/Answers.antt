use Rattle.std.proofs.Common.{w32, eqb}
use Rattle.std.specs.Ordering.{is_eq}
use Rattle.vortex_kernels.proofs.LaneMasks.{unsigned_rows, equal_unsigned, masked}
use Rattle.vortex_kernels.proofs.lanes.unsigned.U32LaneInteger.equal_word.Goals as goal

pub returns : goal.returns
returns c =
    unsigned_rows eqb is_eq equal_unsigned
    (masked w32 eqb)
    c.args.left.now c.args.right.now c.requires.left c.requires.right
