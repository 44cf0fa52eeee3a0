use Rattle.std.proofs.Common.{map}
use Rattle.yurkije_lent.proofs.LentRows.{lent_numbers, part_count, part_at}
use Rattle.yurkije_lent.proofs.integers.lent_ints.Goals as goal

pub returns-then-end-values : goal.returns-then-end-values
returns-then-end-values g c =
    let f = g.T.NativePType.number in
    let column = c.args.column.now in
    let xs = c.in_ok-values.values.now in
    let end = c.in_ok-end.end in
    lent_numbers column g.T.NativePType.ptype (map f xs) _ c.in_ok-values.ensures
    (part_count f xs column.offset column.length end c.in_ok-end.ensures.1 c.if-end-values.true)
    (λ i lt. part_at f xs column.offset column.length end i c.in_ok-end.ensures.1 lt)
