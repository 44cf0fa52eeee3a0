use Rattle.std.specs.Int.{w128}
use Rattle.std.proofs.lemmas.Int.{to_z-of_z}
use Rattle.vortex_types.specs.declared.scalar_value.ScalarValue.TheVariants.{Int}
use Rattle.vortex_types.specs.ValueOf.{value_of}
use Rattle.std.proofs.Common.{rules, ◌≡◌, ◌<◌, FitsSigned, to_z, of_z, length, ap, ◌∙◌, arith}
use Rattle.vortex_types.specs.LogicalTypes.{integer_type, is_nullable}
use Rattle.vortex_types.specs.TypeOf.{allows_null, type_of}
use Rattle.vortex_types.specs.Values.{number}
use Rattle.vortex_kernels.specs.ArithmeticIntegers.{FitsResult}
use Rattle.vortex_columns.specs.ValidRows.{either_nullable}
use Rattle.vortex_kernels.proofs.Calculating.{no_fault}
use Rattle.vortex_kernels.proofs.ConstantResults.{either_form, int_value, is_told, told_not}
use Rattle.vortex_kernels.proofs.ConstantResults.{not_told}
use Rattle.vortex_kernels.proofs.ConstantResults.{constants_refuse, constants_answer}
use Rattle.vortex_kernels.proofs.numeric.numeric_constants.Goals as goal
use Rattle.vortex_kernels.proofs.numeric.numeric_constants.Goals.{else-ne-via-then-ne+else-len-ne0}
use Rattle.vortex_kernels.proofs.numeric.numeric_constants.Goals.{else-ne-via-else-ne}

pub returns-then-len-ne0-clause-rows : goal.returns-then-len-ne0-clause-rows
returns-then-len-ne0-clause-rows g c =
    let p = g.T.NativePType.ptype in
    let exact = g.O.CheckedPrimitiveOp.exact in
    let a = g.T.NativePType.number c.args.left in
    let b = g.T.NativePType.number c.args.right in
    let l = c.args.lhs.now in
    let r = c.args.rhs.now in
    let fault = c.apply_checked-value.result.1 in
    let told =
    is_told c.ne.result (g.O.Fail.PartialEq.eq fault c.default.result)
    (g.O.Fail.Failure.is_fault fault) c.ne.ensures
    (g.met.O.Fail.Failure.evidence.told fault c.default.result c.default.ensures) c.if-ne.true in
    constants_refuse c.args.operator p exact a b l r c.requires.exact c.requires.types
    c.requires.lengths c.requires.left c.requires.right
    (λ e. c.if-len-ne0.true (c.len.ensures ∙ e))
    (told_not (g.O.Fail.Failure.is_fault fault) (FitsResult p (exact a b))
    c.apply_checked-value.ensures.fault told)

pub returns-in_err-scalar-clause-rows : goal.returns-in_err-scalar-clause-rows
returns-in_err-scalar-clause-rows g c =
    let p = g.T.NativePType.ptype in
    let l = c.args.lhs.now in
    let r = c.args.rhs.now in
    let form : type_of c.with_nullability.result ≡ integer_type p (either_nullable l r) =
    either_form l r p (type_of c.in_ok-dtype.dtype) (type_of c.with_nullability.result)
    (allows_null c.bitor-nullability.result) (allows_null c.nullability.result)
    (allows_null c.nullability-2.result) c.requires.types
    (c.in_ok-dtype.ensures ∙ c.dtype.ensures.dtype) c.with_nullability.ensures
    c.bitor-nullability.ensures (c.nullability.ensures ∙ ap is_nullable c.dtype-2.ensures.dtype)
    (c.nullability-2.ensures ∙ ap is_nullable c.dtype-3.ensures.dtype) in
    let z = g.T.NativePType.number c.apply_checked-value.result.0 in
    let kept : FitsSigned w128 c.to_i128.result = search rules in
    let value : value_of (Int (to_z w128 (of_z w128 c.to_i128.result))) ≡ number z =
    int_value (to_z w128 (of_z w128 c.to_i128.result))
    ∙ ap number (to_z-of_z w128 c.to_i128.result kept ∙ c.to_i128.ensures.value) in
    absurd (c.in_err-scalar.ensures.0
    (rw (value, form) c.to_i128.ensures.fits))

pub returns-clause-rows : goal.returns-clause-rows
returns-clause-rows g c =
    let p = g.T.NativePType.ptype in
    let exact = g.O.CheckedPrimitiveOp.exact in
    let a = g.T.NativePType.number c.args.left in
    let b = g.T.NativePType.number c.args.right in
    let l = c.args.lhs.now in
    let r = c.args.rhs.now in
    let form : type_of c.with_nullability.result ≡ integer_type p (either_nullable l r) =
    either_form l r p (type_of c.in_ok-dtype.dtype) (type_of c.with_nullability.result)
    (allows_null c.bitor-nullability.result) (allows_null c.nullability.result)
    (allows_null c.nullability-2.result) c.requires.types
    (c.in_ok-dtype.ensures ∙ c.dtype.ensures.dtype) c.with_nullability.ensures
    c.bitor-nullability.ensures (c.nullability.ensures ∙ ap is_nullable c.dtype-2.ensures.dtype)
    (c.nullability-2.ensures ∙ ap is_nullable c.dtype-3.ensures.dtype) in
    let fault = c.apply_checked-value.result.1 in
    let z = g.T.NativePType.number c.apply_checked-value.result.0 in
    let fits : 0 < length l.rows → FitsResult p (exact a b) =
    elim c.else-ne.branch [
      | else-ne-via-then-ne+else-len-ne0 w ↦ λ some. absurd
          (omega (arith, w.len.ensures, w.if-len-ne0.false, some))
      | else-ne-via-else-ne w ↦ λ some.
          not_told (g.O.Fail.Failure.is_fault fault) (FitsResult p (exact a b))
          c.apply_checked-value.ensures.fault
          (no_fault c.ne.result (g.O.Fail.PartialEq.eq fault c.default.result)
          (g.O.Fail.Failure.is_fault fault) c.ne.ensures
          (g.met.O.Fail.Failure.evidence.told fault c.default.result c.default.ensures)
          w.if-ne.false)
    ] in
    let kept : FitsSigned w128 c.to_i128.result = search rules in
    let value : value_of (Int (to_z w128 (of_z w128 c.to_i128.result))) ≡ number z =
    int_value (to_z w128 (of_z w128 c.to_i128.result))
    ∙ ap number (to_z-of_z w128 c.to_i128.result kept ∙ c.to_i128.ensures.value) in
    let made : c.in_ok-scalar.scalar
    ≡ record { dtype = integer_type p (either_nullable l r); value = number z } =
    c.in_ok-scalar.ensures.1 ∙ (λ i. record { dtype = form i; value = value i }) in
    constants_answer c.args.operator p exact a b l r c.requires.exact c.requires.types
    c.requires.lengths c.requires.left c.requires.right z c.in_ok-scalar.scalar c.constant.result
    made fits c.apply_checked-value.ensures.exact
    (rw c.len-2.ensures at c.constant.ensures)
