use Rattle.std.proofs.Common.{◌∙◌}
use Rattle.vortex_types.specs.TypeOf.{type_of}
use Rattle.vortex_types.proofs.Agreeing.{loosely}
use Rattle.vortex_types.proofs.dtype.DType.eq_ignore_nullability.Goals as goal

pub returns : goal.returns
returns c = c.agrees.ensures ∙ loosely (type_of c.args.self.now) (type_of c.args.other.now)
