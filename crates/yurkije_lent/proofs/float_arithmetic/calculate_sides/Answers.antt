use Rattle.std.proofs.Common.{ℕ, subst, arith}
use Rattle.vortex_columns.specs.ValidityView.{validity_of}
use Rattle.vortex_sql_float_columns.specs.KeyedRows.{AreKeys, HasFloatRows}
use Rattle.vortex_sql_float_columns.proofs.FloatRows.{float_answers}
use Rattle.yurkije_lent.specs.Operands.{operand_column}
use Rattle.yurkije_lent.proofs.FloatSides.{ok_holds}
use Rattle.yurkije_lent.proofs.FloatArithmetic.{inner_holds}
use Rattle.yurkije_lent.proofs.float_arithmetic.calculate_sides.Goals as goal

pub returns : goal.returns
returns g c =
    let op = c.args.operator in
    let l = operand_column c.args.lhs.now in
    let r = operand_column c.args.rhs.now in
    let left = g.L.Numbers.number_at c.args.left in
    let right = g.R.Numbers.number_at c.args.right in
    let keys = c.in_ok-keys.keys in
    let are =
    inner_holds c.key_rows.result (λ ks. AreKeys op left right c.len.result ks.items) c.ok.result
    c.in_ok-made.made keys c.ok.ensures.value c.in_ok-made.was c.in_ok-keys.was
    c.key_rows.ensures in
    ok_holds c.try_primitive.result (HasFloatRows op l r) c.ok-2.result c.ok-2.ensures.value
    (float_answers op left right l r c.requires.left.each
    (λ i lt. c.requires.right.each i (omega (arith, c.requires.lengths, lt))) keys.items
    (validity_of c.in_ok-validity.validity) c.try_primitive.result
    (subst (λ (n : ℕ). AreKeys op left right n keys.items) c.len.ensures are)
    c.in_ok-validity.ensures c.try_primitive.ensures)
