use Rattle.vortex_interface.specs.Shipped.{Cast}
use Rattle.vortex_shipped.proofs.CallTexts.{writes_parts}
use Rattle.vortex_shipped.proofs.cast.CastScalarFnVTable.TheImpl.Goals as goal

pub fmt_sql-tells : goal.fmt_sql-tells
fmt_sql-tells x y c =
    writes_parts Cast c.args.children.now c.args.out.now c.new.out.now c.result c.ensures
