use Rattle.std.proofs.Common.{◌∙◌, sym, subst, map}
use Rattle.vortex_types.specs.TypeOf.{type_of}
use Rattle.vortex_ranges.specs.BoundViews.{range_of}
use Rattle.vortex_ranges.specs.Calls.{AdmitsCalls}
use Rattle.vortex_ranges.proofs.Defaults.{typed_calls, null_calls}
use Rattle.vortex_ranges.proofs.functions.default_range.Goals as goal

pub returns : goal.returns
returns g c =
    let m = g.C.ScalarFnVTable.meaning in
    let f = c.args.function.now in
    let o = c.args.options.now in
    let t = type_of c.args.dtype.now in
    let rs = map range_of c.args.inputs.now in
    subst (λ r. AdmitsCalls (m.return_type f o) (m.means f o) t rs r) (sym c.of_type.ensures)
    (typed_calls m g.met.C.ScalarFnVTable.lawful f o t c.is_infallible-may_fault.result
    c.is_infallible-may_fault.ensures rs)

pub returns-then-any_is_null : goal.returns-then-any_is_null
returns-then-any_is_null g c =
    let m = g.C.ScalarFnVTable.meaning in
    let f = c.args.function.now in
    let o = c.args.options.now in
    null_calls m g.met.C.ScalarFnVTable.lawful f o (type_of c.args.dtype.now)
    c.is_infallible-may_fault.result c.is_infallible-may_fault.ensures (sym c.is_strict.ensures ∙ c.if-is_strict.true)
    c.args.inputs.now (sym c.any_is_null.ensures ∙ c.if-any_is_null.true)
