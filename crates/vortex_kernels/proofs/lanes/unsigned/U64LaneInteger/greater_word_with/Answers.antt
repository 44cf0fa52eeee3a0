use Rattle.std.proofs.Common.{w64, ltb, to_z}
use Rattle.std.specs.Prelude.{int_lt}
use Rattle.std.specs.Ordering.{is_gt}
use Rattle.vortex_kernels.proofs.LaneMasks.{unsigned_rows_with, greater_unsigned, narrowed, turned, lanes_fit}
use Rattle.vortex_kernels.proofs.lanes.unsigned.U64LaneInteger.greater_word_with.Goals as goal

pub overflow_cast-result : goal.overflow_cast-result
overflow_cast-result c = lanes_fit (λ m z. int_lt (to_z w64 m) (to_z w64 z)) _ _

pub returns : goal.returns
returns c =
    unsigned_rows_with (λ a b. ltb b a) is_gt greater_unsigned
    (turned ltb (narrowed ltb))
    c.args.left.now c.args.right c.requires
