use Rattle.std.proofs.Common.{sym, subst}
use Rattle.vortex_pruning.specs.Knowing.{Knows}
use Rattle.vortex_pruning.proofs.TreesKnown.{literal_node}
use Rattle.vortex_pruning.proofs.node.leaf_range.Goals as goal

pub returns-in-Some : goal.returns-in-Some
returns-in-Some g c =
    let m = g.C.ScalarFnVTable.meaning in
    let ss = c.args.statistics.now in
    let n = c.args.rows in
    subst (λ r. Knows m n ss c.args.node.now r) (sym c.literal.ensures)
    (literal_node m n ss c.args.node.now c.in-Some.scalar.now c.dtype-typed.ensures.typed
    c.in-Some.ensures)
