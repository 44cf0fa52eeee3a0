use Rattle.std.proofs.Common.{w32, refl, eqb}
use Rattle.std.specs.Ordering.{is_eq}
use Rattle.vortex_kernels.proofs.LaneMasks.{signed_rows_with, equal_signed, masked}
use Rattle.vortex_kernels.proofs.lanes.signed.I32LaneInteger.equal_word_with.Goals as goal

pub returns : goal.returns
returns c =
    signed_rows_with w32 2147483647 refl eqb is_eq (equal_signed w32)
    (masked w32 eqb)
    c.args.left.now c.args.right c.requires
    c.learn_ranges.ensures c.ranges.right
