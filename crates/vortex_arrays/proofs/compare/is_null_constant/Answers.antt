use Rattle.std.proofs.Common.{◌∙◌, sym}
use Rattle.vortex_kernels.proofs.Comparing.{null_rows}
use Rattle.vortex_arrays.proofs.compare.is_null_constant.Goals as goal

pub returns-in-Some-clause-nulls : goal.returns-in-Some-clause-nulls
returns-in-Some-clause-nulls c =
    λ h.
    null_rows c.in-Some.scalar.now c.args.column.now c.in-Some.ensures
    (sym c.is_null.ensures ∙ cc)
