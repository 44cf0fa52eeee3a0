use Rattle.vortex_sql_floats.specs.declared.floats.FloatOperator.TheVariants.{Divide}
use Rattle.vortex_sql_float_columns.proofs.PlainResults.{plain_number}
use Rattle.vortex_sql_float_columns.proofs.operations.DividedOperation.applied.Goals as goal

pub returns-clause-number : goal.returns-clause-number
returns-clause-number c = plain_number Divide c.args.x c.args.y c.requires
