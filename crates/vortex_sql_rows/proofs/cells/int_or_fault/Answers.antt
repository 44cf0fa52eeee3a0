use Rattle.std.proofs.Common.{ap}
use Rattle.vortex_errors.specs.declared.error.VortexError.TheVariants.{Custom}
use Rattle.vortex_interface.specs.Outcomes.{custom}
use Rattle.vortex_sql_rows.specs.Faults.{fault_number}
use Rattle.vortex_sql_rows.specs.Integers.{int_or_fault}
use Rattle.vortex_sql_rows.proofs.cells.int_or_fault.Goals as goal

pub returns-in-None : goal.returns-in-None
returns-in-None c =
    (custom (fault_number c.args.fault), ap (int_or_fault c.args.fault) c.in-None.is, ap Custom c.number.ensures)
