use Rattle.std.proofs.Common.{ap}
use Rattle.vortex_errors.specs.declared.error.VortexError.TheVariants.{Custom}
use Rattle.vortex_interface.specs.Outcomes.{custom}
use Rattle.vortex_sql_rows.specs.Faults.{fault_number}
use Rattle.vortex_sql_floats.specs.FloatOutcomes.{gives_unless}
use Rattle.vortex_sql_floats.proofs.keys.float_or_fault.Goals as goal

pub returns-in-Some : goal.returns-in-Some
returns-in-Some c = (
  custom (fault_number c.in-Some.fault),
  ap (λ o. gives_unless o c.args.float) c.in-Some.is,
  ap Custom c.number.ensures,
)
