use Rattle.std.proofs.Common.{w16, refl, to_z}
use Rattle.std.specs.Prelude.{int_lt}
use Rattle.std.specs.Ordering.{is_gt}
use Rattle.vortex_kernels.proofs.LaneMasks.{signed_rows_with, greater_signed, masked, turned}
use Rattle.vortex_kernels.proofs.lanes.signed.I16LaneInteger.greater_word_with.Goals as goal

pub returns : goal.returns
returns c =
    signed_rows_with w16 32767 refl (λ a b. int_lt (to_z w16 b) (to_z w16 a)) is_gt (greater_signed w16)
    (turned (λ a b. int_lt (to_z w16 a) (to_z w16 b)) (masked w16 (λ a b. int_lt (to_z w16 a) (to_z w16 b))))
    c.args.left.now c.args.right c.requires
    c.learn_ranges.ensures c.ranges.right
