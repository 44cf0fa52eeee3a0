use Rattle.std.proofs.Common.{refl}
use Rattle.vortex_columns.specs.ValidityView.{validity_of}
use Rattle.vortex_kernels.specs.Between.{HasBetweenRows, any_nullable}
use Rattle.vortex_kernels.proofs.BoundedRows.{bounded_answers}
use Rattle.yurkije_lent.specs.Operands.{operand_column}
use Rattle.yurkije_lent.proofs.Optional.{some_answers}
use Rattle.yurkije_lent.proofs.between.between_operands.Goals as goal

pub returns : goal.returns
returns c =
    let options = c.args.options.now in
    let x = operand_column c.args.array.now in
    let l = operand_column c.args.lower.now in
    let u = operand_column c.args.upper.now in
    some_answers c.try_bool.result (HasBetweenRows options x l u) (λ e. ⊥) c.ok.result
    c.ok.ensures.value
    (bounded_answers options x l u (any_nullable x.dtype l.dtype u.dtype) c.in_ok-bits.bits
    (validity_of c.in_ok-validity.validity) c.try_bool.result c.requires.lower c.requires.upper
    (c.if-not-is_full.ensures refl) (c.if-not-is_full-2.ensures refl) refl c.in_ok-bits.ensures
    c.in_ok-validity.ensures c.try_bool.ensures)
