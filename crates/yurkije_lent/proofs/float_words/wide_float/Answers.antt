use Rattle.std.proofs.Common.{◌≡◌, to_z-of_z, of_z, w64}
use Rattle.yurkije_lent.proofs.FloatOrders.{number_pattern}
use Rattle.yurkije_lent.proofs.float_words.wide_float.Goals as goal

pub float_from_bits-result : goal.float_from_bits-result
float_from_bits-result c =
    let back = to_z-of_z c.ranges.pattern in
    let cast = c.cast_unsigned.ensures in
    let same : c.cast_unsigned.result ≡ of_z w64 c.args.pattern = cc in
    number_pattern c.args.pattern c.cast_unsigned.result same c.requires
