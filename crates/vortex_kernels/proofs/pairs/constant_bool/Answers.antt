use Rattle.std.proofs.Common.{◌∙◌, ap, sym}
use Rattle.vortex_types.specs.Values.{truth_of}
use Rattle.vortex_kernels.proofs.Comparing.{constant_row, constant_truth}
use Rattle.vortex_kernels.proofs.pairs.constant_bool.Goals as goal

pub returns-clause-value : goal.returns-clause-value
returns-clause-value c =
    rw c.as_bool_opt.ensures
    (constant_truth c.in_ok-as_constant.field-0.now c.args.column.now
    c.in_ok-as_constant.ensures)

pub returns-clause-rows : goal.returns-clause-rows
returns-clause-rows c = λ constant i lt.
    ap truth_of
    (constant_row c.in_ok-as_constant.field-0.now c.args.column.now c.in_ok-as_constant.ensures
    i lt)
    ∙ sym c.as_bool_opt.ensures
