use Rattle.std.proofs.Common.{◌≡◌, map, sym}
use Rattle.vortex_types.specs.Values.{number}
use Rattle.vortex_kernels.proofs.PartOrders.{ints_are_rows}
use Rattle.vortex_kernels.proofs.lists.hold_in_int_lists.Goals as goal

pub returns-in-Some-Some-Every-Every : goal.returns-in-Some-Some-Every-Every
returns-in-Some-Some-Every-Every g c =
    let f = g.T.NativePType.number in
    let w = c.in-Some-Some-Every-Every in
    let left : map number (map f w.left.now) ≡ c.args.lists.left_elements.now.rows =
    ints_are_rows c.args.lists.left_elements.now (map f w.left.now) w.ensures.1
    w.ensures''.rows.each in
    let right : map number (map f w.right.now) ≡ c.args.lists.right_elements.now.rows =
    ints_are_rows c.args.lists.right_elements.now (map f w.right.now) w.ensures'.1
    w.ensures'''.rows.each in
    rw (sym left) (rw (sym right) c.hold_in_pairs.ensures)
