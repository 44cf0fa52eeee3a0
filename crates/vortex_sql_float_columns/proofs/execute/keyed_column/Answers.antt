use Rattle.std.proofs.Common.{arith}
use Rattle.vortex_columns.specs.ValidityView.{validity_of}
use Rattle.vortex_sql_float_columns.proofs.FloatRows.{float_answers}
use Rattle.vortex_sql_float_columns.proofs.execute.keyed_column.Goals as goal

pub returns : goal.returns
returns g c =
    let left = g.L.Keys.key_at c.args._left.now in
    let right = g.R.Keys.key_at c.args._right.now in
    float_answers c.args._operator left right c.args.lhs.now c.args.rhs.now c.requires.left.each
    (λ i lt. c.requires.right.each i (omega (arith, c.requires.lengths, lt)))
    c.args.keys.items (validity_of c.in_ok-validity.validity) c.try_primitive.result
    c.requires.keys c.in_ok-validity.ensures c.try_primitive.ensures
