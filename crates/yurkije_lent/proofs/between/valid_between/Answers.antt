use Rattle.std.proofs.Common.{◌∙◌, sym}
use Rattle.vortex_types.specs.LogicalTypes.{is_nullable}
use Rattle.vortex_columns.specs.ValidityView.{validity_of}
use Rattle.vortex_columns.specs.ValidRows.{IsJointValidity, IsValidityIn, either_nullable}
use Rattle.vortex_kernels.specs.Between.{any_nullable}
use Rattle.yurkije_lent.specs.Operands.{operand_column}
use Rattle.yurkije_lent.proofs.Bounded.{valid_beside, with_last}
use Rattle.yurkije_lent.proofs.Optional.{some_weaker}
use Rattle.yurkije_lent.proofs.between.valid_between.Goals as goal

pub returns-then-is_nullable : goal.returns-then-is_nullable
returns-then-is_nullable c =
    let x = operand_column c.args.array.now in
    let l = operand_column c.args.lower.now in
    let u = operand_column c.args.upper.now in
    let n = any_nullable x.dtype l.dtype u.dtype in
    some_weaker c.both_valid_in.result
    (λ v. IsJointValidity (either_nullable x u) x u (validity_of v))
    (λ v. IsValidityIn n x (validity_of v))
    (λ v h.
    valid_beside (either_nullable x u) n x u (validity_of v)
    (with_last (is_nullable x.dtype) (is_nullable l.dtype) (is_nullable u.dtype)
    (sym c.nullability.ensures ∙ sym c.is_nullable.ensures ∙ c.if-is_nullable.true))
    c.requires.upper c.requires.no_upper h)
    c.both_valid_in.ensures
