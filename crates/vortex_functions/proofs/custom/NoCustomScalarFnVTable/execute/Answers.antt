use Rattle.std.proofs.Common.{◌∙◌, ap, replicate, false}
use Rattle.vortex_functions.proofs.FixedColumn.{fixed_call}
use Rattle.vortex_functions.proofs.custom.NoCustomScalarFnVTable.execute.Goals as goal

pub returns : goal.returns
returns g c =
    fixed_call (g.A.ExecutionArgs.inputs c.args.args.now) (g.A.ExecutionArgs.rows c.args.args.now)
    c.in_ok-bits-2.bits c.try_bool.result c.requires.accepted
    (c.in_ok-bits-2.ensures
    ∙ c.deref.ensures.value
    ∙ c.in_ok-bits.ensures
    ∙ ap (λ n. replicate n false) c.row_count.ensures) c.try_bool.ensures
