use Rattle.std.proofs.Common.{◌≡◌, ◌∙◌, ap, refl}
use Rattle.std.specs.Prelude.{not}
use Rattle.std.specs.declared.cmp.Ordering.{Ordering}
use Rattle.std.specs.declared.cmp.Ordering.TheVariants.{Less, Equal, Greater}
use Rattle.std.specs.Ordering.{is_eq, is_ne}
use Rattle.vortex_kernels.specs.PairOrders.{byte_order}
use Rattle.vortex_kernels.proofs.EqualBytes.{equal_by_order}
use Rattle.vortex_kernels.proofs.comparisons.IsNotEqualComparison.holds_of_bytes.Goals as goal

not_equal : (o : Ordering) → not (is_eq o) ≡ is_ne o
not_equal Less = refl
not_equal Equal = refl
not_equal Greater = refl

pub returns : goal.returns
returns g c =
    let l = g.A.WordsOfBytes.value c.args.left.now in
    let r = g.B.WordsOfBytes.value c.args.right.now in
    ap not (equal_by_order c.equal.result l r c.equal.ensures) ∙ not_equal (byte_order l r)
