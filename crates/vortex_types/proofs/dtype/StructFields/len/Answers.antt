use Rattle.std.proofs.Common.{arith}
use Rattle.vortex_types.proofs.TypeViews.{struct_count}
use Rattle.vortex_types.proofs.dtype.StructFields.len.Goals as goal

pub returns : goal.returns
returns c =
    let s = c.args.self.now in
    omega (arith, struct_count s, s.fields.ok.0)
