use Rattle.std.proofs.Common.{w64, refl, eqb, to_z}
use Rattle.std.specs.Prelude.{int_lt}
use Rattle.std.specs.Ordering.{is_eq}
use Rattle.vortex_kernels.proofs.LaneMasks.{signed_rows, equal_signed, narrowed, lanes_fit}
use Rattle.vortex_kernels.proofs.lanes.signed.I64LaneInteger.equal_word.Goals as goal

pub overflow_cast-result : goal.overflow_cast-result
overflow_cast-result c = lanes_fit (λ m z. int_lt (to_z w64 m) (to_z w64 z)) _ _

pub returns : goal.returns
returns c =
    signed_rows w64 9223372036854775807 refl eqb is_eq (equal_signed w64)
    (narrowed eqb)
    c.args.left.now c.args.right.now c.requires.left c.requires.right
    c.learn_ranges.ensures c.learn_ranges-2.ensures
