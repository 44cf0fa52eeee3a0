use Rattle.std.proofs.Common.{◌∙◌, sym, ap, cond, refl}
use Rattle.vortex_interface.specs.Outcomes.{faults, custom}
use Rattle.vortex_sql_floats.specs.FloatOutcomes.{gives_float}
use Rattle.vortex_sql_float_functions.specs.FloatFunctions.{applied}
use Rattle.vortex_sql_float_functions.specs.RootFaults.{root_number}
use Rattle.vortex_sql_float_functions.proofs.rows.of_float.Goals as goal

pub returns-then-lacks_root : goal.returns-then-lacks_root
returns-then-lacks_root c = (
  custom root_number,
  ap (λ b. cond b (faults (custom root_number)) (gives_float (applied c.args.function c.args.x)))
      (sym c.lacks_root.ensures ∙ c.if-lacks_root.true),
  refl,
)
