use Rattle.std.proofs.Common.{w16, refl, to_z}
use Rattle.std.specs.Prelude.{int_lt}
use Rattle.std.specs.Ordering.{is_lt}
use Rattle.vortex_kernels.proofs.LaneMasks.{signed_rows, less_signed, masked}
use Rattle.vortex_kernels.proofs.lanes.signed.I16LaneInteger.less_word.Goals as goal

pub returns : goal.returns
returns c =
    signed_rows w16 32767 refl (λ a b. int_lt (to_z w16 a) (to_z w16 b)) is_lt (less_signed w16)
    (masked w16 (λ a b. int_lt (to_z w16 a) (to_z w16 b)))
    c.args.left.now c.args.right.now c.requires.left c.requires.right
    c.learn_ranges.ensures c.learn_ranges-2.ensures
