use Rattle.std.proofs.Common.{sym, subst, refl}
use Rattle.vortex_types.specs.TypeOf.{type_of}
use Rattle.vortex_pruning.specs.Knowing.{Knows}
use Rattle.vortex_pruning.proofs.TreesKnown.{column_node, untold_node, no_node}
use Rattle.vortex_pruning.proofs.node.column_range.Goals as goal

pub returns-in_default : goal.returns-in_default
returns-in_default g c = (
  refl,
  λ told. no_node g.C.ScalarFnVTable.meaning c.args.rows c.args.statistics.now c.args.node.now
      c.requires.no_call c.requires.no_literal (λ h. c.in_default.ensures h),
)

pub returns-in-Some-statistics_at : goal.returns-in-Some-statistics_at
returns-in-Some-statistics_at g c =
    let m = g.C.ScalarFnVTable.meaning in
    let ss = c.args.statistics.now in
    let n = c.args.rows in
    subst (λ r. Knows m n ss c.args.node.now r) (sym c.described.ensures)
    (column_node m n ss c.args.node.now c.in-Some.place (type_of c.dtype.result.now)
    c.in-Some-statistics_at.found.now c.in-Some.ensures c.dtype.ensures.dtype
    c.in-Some-statistics_at.ensures.0 c.in-Some-statistics_at.ensures.1
    c.in-Some-statistics_at.ensures.2)

pub returns-in-None : goal.returns-in-None
returns-in-None g c = (
  refl,
  untold_node g.C.ScalarFnVTable.meaning c.args.statistics.now c.args.node.now c.in-Some.place
      (type_of c.dtype.result.now) c.in-Some.ensures c.dtype.ensures.dtype
      (λ h. c.in-None.ensures h),
)
