use Rattle.vortex_kernels.proofs.EqualBytes.{equal_by_order}
use Rattle.vortex_kernels.proofs.comparisons.IsEqualComparison.holds_of_bytes.Goals as goal

pub returns : goal.returns
returns g c =
    equal_by_order c.equal.result (g.A.WordsOfBytes.value c.args.left.now)
    (g.B.WordsOfBytes.value c.args.right.now) c.equal.ensures
