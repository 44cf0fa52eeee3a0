use Rattle.std.proofs.Common.{◌≡◌, to_z-of_z, of_z, w64}
use Rattle.vortex_sql_float_columns.proofs.PlainResults.{finite_pattern}
use Rattle.vortex_sql_float_columns.proofs.keys.plain_float.Goals as goal

pub float_from_bits-result : goal.float_from_bits-result
float_from_bits-result c =
    let z = c.args.pattern in
    let back = to_z-of_z c.ranges.pattern in
    let cast = c.cast_unsigned.ensures in
    let same : c.cast_unsigned.result ≡ of_z w64 z = cc in
    finite_pattern z c.cast_unsigned.result same (c.requires c.if-is_plain.true)
