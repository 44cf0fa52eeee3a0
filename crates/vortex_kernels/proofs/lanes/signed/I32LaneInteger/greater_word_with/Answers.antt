use Rattle.std.proofs.Common.{w32, refl, to_z}
use Rattle.std.specs.Prelude.{int_lt}
use Rattle.std.specs.Ordering.{is_gt}
use Rattle.vortex_kernels.proofs.LaneMasks.{signed_rows_with, greater_signed, masked, turned}
use Rattle.vortex_kernels.proofs.lanes.signed.I32LaneInteger.greater_word_with.Goals as goal

pub returns : goal.returns
returns c =
    signed_rows_with w32 2147483647 refl (λ a b. int_lt (to_z w32 b) (to_z w32 a)) is_gt (greater_signed w32)
    (turned (λ a b. int_lt (to_z w32 a) (to_z w32 b)) (masked w32 (λ a b. int_lt (to_z w32 a) (to_z w32 b))))
    c.args.left.now c.args.right c.requires
    c.learn_ranges.ensures c.ranges.right
