use Rattle.std.proofs.Common.{◌∙◌, ap, to_z, of_z, to_z-of_z, w64}
use Rattle.vortex_float_bits.specs.FloatBits.{float_of}
use Rattle.vortex_sql_floats.specs.FloatArithmetic.{applied}
use Rattle.vortex_sql_float_columns.specs.PlainRows.{is_plain}
use Rattle.vortex_sql_float_columns.proofs.PlainResults.{known_row, read_back}
use Rattle.vortex_sql_float_columns.proofs.keys.result_pattern.Goals as goal

pub applied-made-requires : goal.applied-made-requires
applied-made-requires g c =
    known_row g.O.Operation.operator c.is_plain-is_plain.result
    (float_of (to_z w64 (of_z w64 c.args.x))) (float_of (to_z w64 (of_z w64 c.args.y)))
    c.plain_float.result c.plain_float-2.result c.is_plain-is_plain.ensures
    c.plain_float.ensures.plain c.plain_float.ensures.other c.plain_float-2.ensures.plain
    c.plain_float-2.ensures.other

pub returns : goal.returns
returns g c = λ h.
    let op = g.O.Operation.operator in
    let x = to_z-of_z c.ranges.x in
    let y = to_z-of_z c.ranges.y in
    let plain = c.is_plain-is_plain.ensures ∙ (λ i. is_plain op (float_of (x i)) (float_of (y i))) ∙ h in
    let left = c.plain_float.ensures.plain plain ∙ ap (λ z. float_of z) x in
    let right = c.plain_float-2.ensures.plain plain ∙ ap (λ z. float_of z) y in
    read_back c.applied-made.result c.cast_signed.result c.applied-made.type_inv c.cast_signed.ensures
    ∙ c.applied-made.ensures.value
    ∙ (λ i. applied op (left i) (right i))
