use Rattle.vortex_functions.proofs.FoundFields.{field_found, leaf_found}
use Rattle.vortex_functions.proofs.expression.BoundExpression+C.column.Goals as goal

pub column_at-requires : goal.column_at-requires
column_at-requires g c = (field_found c.args.name.now _ _ c.in-Some.ensures).within

pub returns-in-Some : goal.returns-in-Some
returns-in-Some g c =
    leaf_found c.args.name.now _ _ c.in-Some.ensures c.column_at.result c.column_at.ensures
