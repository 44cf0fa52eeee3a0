use Rattle.std.proofs.Common.{w64, refl, to_z}
use Rattle.std.specs.Prelude.{int_lt}
use Rattle.std.specs.Ordering.{is_lt}
use Rattle.vortex_kernels.proofs.LaneMasks.{signed_rows, less_signed, narrowed, lanes_fit}
use Rattle.vortex_kernels.proofs.lanes.signed.I64LaneInteger.less_word.Goals as goal

pub overflow_cast-result : goal.overflow_cast-result
overflow_cast-result c = lanes_fit (λ m z. int_lt (to_z w64 m) (to_z w64 z)) _ _

pub returns : goal.returns
returns c =
    signed_rows w64 9223372036854775807 refl (λ a b. int_lt (to_z w64 a) (to_z w64 b)) is_lt (less_signed w64)
    (narrowed (λ a b. int_lt (to_z w64 a) (to_z w64 b)))
    c.args.left.now c.args.right.now c.requires.left c.requires.right
    c.learn_ranges.ensures c.learn_ranges-2.ensures
