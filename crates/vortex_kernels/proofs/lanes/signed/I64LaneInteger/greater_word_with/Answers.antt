use Rattle.std.proofs.Common.{w64, refl, to_z}
use Rattle.std.specs.Prelude.{int_lt}
use Rattle.std.specs.Ordering.{is_gt}
use Rattle.vortex_kernels.proofs.LaneMasks.{signed_rows_with, greater_signed, narrowed, turned, lanes_fit}
use Rattle.vortex_kernels.proofs.lanes.signed.I64LaneInteger.greater_word_with.Goals as goal

pub overflow_cast-result : goal.overflow_cast-result
overflow_cast-result c = lanes_fit (λ m z. int_lt (to_z w64 m) (to_z w64 z)) _ _

pub returns : goal.returns
returns c =
    signed_rows_with w64 9223372036854775807 refl (λ a b. int_lt (to_z w64 b) (to_z w64 a)) is_gt (greater_signed w64)
    (turned (λ a b. int_lt (to_z w64 a) (to_z w64 b)) (narrowed (λ a b. int_lt (to_z w64 a) (to_z w64 b))))
    c.args.left.now c.args.right c.requires
    c.learn_ranges.ensures c.ranges.right
