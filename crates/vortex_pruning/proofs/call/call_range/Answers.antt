use Rattle.std.proofs.Common.{true, false, sym, subst, map, List}
use Rattle.vortex_types.specs.LogicalTypes.{LogicalType}
use Rattle.vortex_types.specs.TypeOf.{type_of}
use Rattle.vortex_interface.specs.Shipped.{Shipped, Binary, NullTest, Between}
use Rattle.vortex_interface.specs.Shipped.{shipped_type, shipped_means}
use Rattle.vortex_functions.specs.Words.{function_of, function_type, function_means}
use Rattle.vortex_ranges.specs.BoundViews.{range_of}
use Rattle.vortex_ranges.specs.Ranges.{RangeView}
use Rattle.vortex_ranges.specs.Calls.{AdmitsCalls}
use Rattle.vortex_errors.proofs.Answering.{AnswersUnlessMemory-weaker}
use Rattle.vortex_pruning.specs.Exact.{IsCallRange}
use Rattle.vortex_ranges.proofs.CallsAdmit.{binary-admits, null_test-admits, between-admits}
use Rattle.vortex_pruning.proofs.call.call_range.Goals as goal

abbrev Fits : Shipped → LogicalType → List RangeView → RangeView → Type 0
Fits s t rs r = AdmitsCalls (shipped_type s) (shipped_means s) t rs r

-- from the shipped function to the one that is called
pub returns-in-Binary-clause-admits : goal.returns-in-Binary-clause-admits
returns-in-Binary-clause-admits g c =
    let m = g.C.ScalarFnVTable.meaning in
    let op = c.in-Binary.operator in
    let t = type_of c.args.dtype.now in
    let rs = map range_of c.args.inputs.now in
    let r = range_of c.binary_range.result in
    subst (λ f. AdmitsCalls (function_type m (function_of f)) (function_means m (function_of f)) t
    rs r) (sym c.in-Binary.is)
    (subst (λ r. Fits (Binary op) t rs r) (sym c.binary_range.ensures) (binary-admits op t rs))

pub returns-in-IsNull-clause-admits : goal.returns-in-IsNull-clause-admits
returns-in-IsNull-clause-admits g c =
    let m = g.C.ScalarFnVTable.meaning in
    let t = type_of c.args.dtype.now in
    let rs = map range_of c.args.inputs.now in
    let r = range_of c.null_test_range.result in
    subst (λ f. AdmitsCalls (function_type m (function_of f)) (function_means m (function_of f)) t
    rs r) (sym c.in-IsNull.is)
    (subst (λ r. Fits (NullTest false) t rs r) (sym c.null_test_range.ensures)
    (null_test-admits false t rs))

pub returns-in-IsNotNull-clause-admits : goal.returns-in-IsNotNull-clause-admits
returns-in-IsNotNull-clause-admits g c =
    let m = g.C.ScalarFnVTable.meaning in
    let t = type_of c.args.dtype.now in
    let rs = map range_of c.args.inputs.now in
    let r = range_of c.null_test_range-in-IsNotNull.result in
    subst (λ f. AdmitsCalls (function_type m (function_of f)) (function_means m (function_of f)) t
    rs r) (sym c.in-IsNotNull.is)
    (subst (λ r. Fits (NullTest true) t rs r) (sym c.null_test_range-in-IsNotNull.ensures)
    (null_test-admits true t rs))

pub returns-in-Between-clause-admits : goal.returns-in-Between-clause-admits
returns-in-Between-clause-admits g c =
    let m = g.C.ScalarFnVTable.meaning in
    let o = c.in-Between.options in
    let t = type_of c.args.dtype.now in
    let rs = map range_of c.args.inputs.now in
    let r = range_of c.between_range.result in
    subst (λ f. AdmitsCalls (function_type m (function_of f)) (function_means m (function_of f)) t
    rs r) (sym c.in-Between.is)
    (subst (λ r. Fits (Between o) t rs r) (sym c.between_range.ensures) (between-admits o t rs))

-- a simple function and Between have their ranges by definition, and no other is simple
pub returns-in-Binary-clause-shape : goal.returns-in-Binary-clause-shape
returns-in-Binary-clause-shape g c =
    let t = type_of c.args.dtype.now in
    let rs = map range_of c.args.inputs.now in
    let r = range_of c.binary_range.result in
    subst (λ f. IsCallRange (function_of f) t rs r) (sym c.in-Binary.is) (λ e. c.binary_range.ensures)

pub returns-in-Not-clause-shape : goal.returns-in-Not-clause-shape
returns-in-Not-clause-shape g c =
    let t = type_of c.args.dtype.now in
    let rs = map range_of c.args.inputs.now in
    let r = range_of c.not_range.result in
    subst (λ f. IsCallRange (function_of f) t rs r) (sym c.in-Not.is) (λ e. c.not_range.ensures)

pub returns-in-IsNull-clause-shape : goal.returns-in-IsNull-clause-shape
returns-in-IsNull-clause-shape g c =
    let t = type_of c.args.dtype.now in
    let rs = map range_of c.args.inputs.now in
    let r = range_of c.null_test_range.result in
    subst (λ f. IsCallRange (function_of f) t rs r) (sym c.in-IsNull.is) (λ e. c.null_test_range.ensures)

pub returns-in-IsNotNull-clause-shape : goal.returns-in-IsNotNull-clause-shape
returns-in-IsNotNull-clause-shape g c =
    let t = type_of c.args.dtype.now in
    let rs = map range_of c.args.inputs.now in
    let r = range_of c.null_test_range-in-IsNotNull.result in
    subst (λ f. IsCallRange (function_of f) t rs r) (sym c.in-IsNotNull.is) (λ e. c.null_test_range-in-IsNotNull.ensures)

pub returns-in-Cast-clause-shape : goal.returns-in-Cast-clause-shape
returns-in-Cast-clause-shape g c =
    let t = type_of c.args.dtype.now in
    let rs = map range_of c.args.inputs.now in
    let r = range_of c.cast_range.result in
    subst (λ f. IsCallRange (function_of f) t rs r) (sym c.in-Cast.is) (λ e. cc)

pub returns-in-Between-clause-shape : goal.returns-in-Between-clause-shape
returns-in-Between-clause-shape g c =
    let t = type_of c.args.dtype.now in
    let rs = map range_of c.args.inputs.now in
    let r = range_of c.between_range.result in
    subst (λ f. IsCallRange (function_of f) t rs r) (sym c.in-Between.is) c.between_range.ensures

pub returns-in-Like-clause-shape : goal.returns-in-Like-clause-shape
returns-in-Like-clause-shape g c =
    let m = g.C.ScalarFnVTable.meaning in
    let t = type_of c.args.dtype.now in
    let rs = map range_of c.args.inputs.now in
    AnswersUnlessMemory-weaker c.like_range.result _
    (λ r. IsCallRange (function_of c.args.function.now) t rs (range_of r))
    (λ r h. subst (λ f. IsCallRange (function_of f) t rs (range_of r)) (sym c.in-Like.is) h)
    c.like_range.ensures.prefix

pub returns-in-Custom-clause-shape : goal.returns-in-Custom-clause-shape
returns-in-Custom-clause-shape g c =
    let t = type_of c.args.dtype.now in
    let rs = map range_of c.args.inputs.now in
    let r = range_of c.range.result in
    subst (λ f. IsCallRange (function_of f) t rs r) (sym c.in-Custom.is) (λ e. cc)
