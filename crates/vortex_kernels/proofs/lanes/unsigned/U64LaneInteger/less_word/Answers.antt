use Rattle.std.proofs.Common.{w64, ltb, to_z}
use Rattle.std.specs.Prelude.{int_lt}
use Rattle.std.specs.Ordering.{is_lt}
use Rattle.vortex_kernels.proofs.LaneMasks.{unsigned_rows, less_unsigned, narrowed, lanes_fit}
use Rattle.vortex_kernels.proofs.lanes.unsigned.U64LaneInteger.less_word.Goals as goal

pub overflow_cast-result : goal.overflow_cast-result
overflow_cast-result c = lanes_fit (λ m z. int_lt (to_z w64 m) (to_z w64 z)) _ _

pub returns : goal.returns
returns c =
    unsigned_rows ltb is_lt less_unsigned
    (narrowed ltb)
    c.args.left.now c.args.right.now c.requires.left c.requires.right
