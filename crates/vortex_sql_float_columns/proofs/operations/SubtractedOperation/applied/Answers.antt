use Rattle.vortex_sql_floats.specs.declared.floats.FloatOperator.TheVariants.{Subtract}
use Rattle.vortex_sql_float_columns.proofs.PlainResults.{plain_number}
use Rattle.vortex_sql_float_columns.proofs.operations.SubtractedOperation.applied.Goals as goal

pub returns-clause-number : goal.returns-clause-number
returns-clause-number c = plain_number Subtract c.args.x c.args.y c.requires
