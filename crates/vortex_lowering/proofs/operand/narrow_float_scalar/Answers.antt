use Rattle.std.proofs.Common.{FitsSigned, w32, subst, sym, to_z-of_z}
use Rattle.vortex_lowering.proofs.StoredLiterals.{key_fits}
use Rattle.vortex_lowering.proofs.operand.narrow_float_scalar.Goals as goal

pub narrow-requires : goal.narrow-requires
narrow-requires c =
    subst (FitsSigned w32) (sym (to_z-of_z c.ranges.number)) (key_fits c.args.number c.requires)
