use Rattle.std.proofs.Common.{FitsSigned, w32, refl, subst, sym, to_z-of_z}
use Rattle.vortex_logical.proofs.CellLemmas.{key_fits}
use Rattle.vortex_logical.proofs.cells.write_narrow.Goals as goal

pub returns-in-None : goal.returns-in-None
returns-in-None c =
    (λ h. c.in-None.ensures (subst (FitsSigned w32) (sym (to_z-of_z c.ranges.key)) (key_fits c.args.key h)), refl)
