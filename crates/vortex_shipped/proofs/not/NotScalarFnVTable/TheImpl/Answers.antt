use Rattle.vortex_interface.specs.Shipped.{Not}
use Rattle.vortex_shipped.proofs.CallTexts.{writes_parts}
use Rattle.vortex_shipped.proofs.not.NotScalarFnVTable.TheImpl.Goals as goal

pub fmt_sql-tells : goal.fmt_sql-tells
fmt_sql-tells x y c =
    writes_parts Not c.args.children.now c.args.out.now c.new.out.now c.result c.ensures
