use Rattle.std.proofs.Common.{◌∙◌}
use Rattle.vortex_types.specs.TypeOf.{struct_fields}
use Rattle.vortex_types.proofs.Agreeing.{fields_exactly}
use Rattle.vortex_types.proofs.dtype.equality.StructFieldsPartialEq.eq.Goals as goal

pub returns : goal.returns
returns c =
    c.agrees.ensures
    ∙ fields_exactly (struct_fields c.args.self.now) (struct_fields c.args.other.now)
