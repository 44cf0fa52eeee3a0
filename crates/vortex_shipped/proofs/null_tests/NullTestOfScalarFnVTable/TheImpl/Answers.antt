use Rattle.std.proofs.Common.{inr, length}
use Rattle.std.proofs.lemmas.Bool.{eqb-true}
use Rattle.vortex_errors.proofs.Answering.{AnswersUnlessMemory-weaker}
use Rattle.vortex_interface.specs.Shipped.{NullTest}
use Rattle.vortex_shipped.proofs.NullTestCalls.{may_read, no_types_refused}
use Rattle.vortex_shipped.proofs.CallTexts.{writes_part, writes_parts}
use Rattle.vortex_shipped.proofs.null_tests.NullTestOfScalarFnVTable.TheImpl.Goals as goal

pub serialize-tells : goal.serialize-tells
serialize-tells g x y c = AnswersUnlessMemory-weaker c.result _ _ (λ v p. inr p) c.ensures

pub deserialize-tells : goal.deserialize-tells
deserialize-tells g x y c = may_read _ c.result c.ensures

pub return_dtype-asks : goal.return_dtype-asks
return_dtype-asks g x y c = eqb-true (length c.args.types.now) 1 c.requires

pub return_dtype-tells : goal.return_dtype-tells
return_dtype-tells g x y c = no_types_refused c.args.types.now c.result c.ensures

pub write_before-tells : goal.write_before-tells
write_before-tells g x y c =
    writes_part (NullTest _) c.args.count c.args.index c.args.out.now c.new.out.now c.result c.ensures

pub fmt_sql-tells : goal.fmt_sql-tells
fmt_sql-tells g x y c =
    writes_parts (NullTest _) c.args.children.now c.args.out.now c.new.out.now c.result c.ensures
