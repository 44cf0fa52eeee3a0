use Rattle.std.proofs.Common.{◌∙◌}
use Rattle.vortex_types.specs.TypeOf.{type_of}
use Rattle.vortex_types.proofs.Agreeing.{exactly}
use Rattle.vortex_types.proofs.dtype.equality.DTypePartialEq.eq.Goals as goal

pub returns : goal.returns
returns c = c.agrees.ensures ∙ exactly (type_of c.args.self.now) (type_of c.args.other.now)
