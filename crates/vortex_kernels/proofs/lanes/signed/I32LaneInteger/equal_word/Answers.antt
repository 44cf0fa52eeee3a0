use Rattle.std.proofs.Common.{w32, refl, eqb}
use Rattle.std.specs.Ordering.{is_eq}
use Rattle.vortex_kernels.proofs.LaneMasks.{signed_rows, equal_signed, masked}
use Rattle.vortex_kernels.proofs.lanes.signed.I32LaneInteger.equal_word.Goals as goal

pub returns : goal.returns
returns c =
    signed_rows w32 2147483647 refl eqb is_eq (equal_signed w32)
    (masked w32 eqb)
    c.args.left.now c.args.right.now c.requires.left c.requires.right
    c.learn_ranges.ensures c.learn_ranges-2.ensures
