use Rattle.std.proofs.Common.{rules, ◌<◌, length, ap, ◌∙◌, arith}
use Rattle.vortex_arrow.specs.Written.{value_bytes}
use Rattle.vortex_arrow.proofs.Joined.{joined_room}
use Rattle.vortex_arrow.proofs.texts_out.byte_count.Goals as goal

pub returns-in-None : goal.returns-in-None
returns-in-None c =
    let rows = c.args.column.now.rows in
    let i = c.loop-i.i in
    let within : i < length rows = search rules in
    let len = ap length (c.bytes_of.ensures ∙ ap value_bytes c.cell.ensures.value) in
    omega (arith, joined_room rows i within, len, c.loop-i.invariant, c.in-None.ensures)
