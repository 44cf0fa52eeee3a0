use Rattle.std.proofs.Common.{FitsSigned, w32, subst, sym, to_z-of_z}
use Rattle.vortex_lowering.proofs.StoredLiterals.{day_fits}
use Rattle.vortex_lowering.proofs.operand.day_scalar.Goals as goal

pub narrow-requires : goal.narrow-requires
narrow-requires c =
    subst (FitsSigned w32) (sym (to_z-of_z c.ranges.number)) (day_fits c.dated_days.ensures c.args.number c.requires)
