use Rattle.std.proofs.Common.{FitsSigned, w32, refl, subst, sym, to_z-of_z}
use Rattle.vortex_logical.proofs.CellLemmas.{day_fits}
use Rattle.vortex_logical.proofs.cells.write_day.Goals as goal

pub returns-in-None : goal.returns-in-None
returns-in-None c =
    (λ h. c.in-None.ensures (subst (FitsSigned w32) (sym (to_z-of_z c.ranges.number)) (day_fits c.args.number h)), refl)
