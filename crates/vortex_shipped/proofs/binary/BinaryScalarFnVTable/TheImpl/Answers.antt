use Rattle.vortex_interface.specs.Shipped.{Binary}
use Rattle.vortex_shipped.proofs.CallTexts.{writes_parts}
use Rattle.vortex_shipped.proofs.binary.BinaryScalarFnVTable.TheImpl.Goals as goal

pub fmt_sql-tells : goal.fmt_sql-tells
fmt_sql-tells x y c =
    writes_parts (Binary c.args.options.now) c.args.children.now c.args.out.now c.new.out.now c.result c.ensures
