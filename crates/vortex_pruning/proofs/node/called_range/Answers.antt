use Rattle.std.proofs.Common.{◌∙◌, sym, ap, subst}
use Rattle.vortex_types.specs.TypeOf.{type_of}
use Rattle.vortex_functions.specs.Words.{function_of}
use Rattle.vortex_ranges.specs.BoundViews.{range_of}
use Rattle.vortex_pruning.specs.Knowing.{Knows, with_faults}
use Rattle.vortex_pruning.proofs.TreesKnown.{called_known}
use Rattle.vortex_pruning.proofs.node.called_range.Goals as goal

pub returns : goal.returns
returns g c =
    let m = g.C.ScalarFnVTable.meaning in
    let ss = c.args.statistics.now in
    let n = c.args.rows in
    let t = c.args.node.now in
    let f = function_of c.args.function.now in
    let k = type_of c.dtype.result.now in
    let own = range_of c.in_ok-own.own in
    subst (λ r. Knows m n ss t r)
    (sym (c.with_faults.ensures ∙ ap (λ b. with_faults b own) c.any_may_fault.ensures))
    (called_known m n ss g.met.C.ScalarFnVTable.lawful f k c.args.inputs.now own
    c.in_ok-own.ensures.admits c.in_ok-own.ensures.shape t
    c.requires.called c.dtype.ensures.dtype c.dtype.ensures.typed c.requires.inputs)
