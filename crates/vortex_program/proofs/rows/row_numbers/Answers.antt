use Rattle.std.proofs.Common.{◌∙◌, [], arith}
use Rattle.vortex_columns.proofs.ElementPlaces.{range_pushed}
use Rattle.vortex_program.proofs.rows.row_numbers.Goals as goal

pub loop-i-preserved : goal.loop-i-preserved
loop-i-preserved c = (
  c.push_reserved.ensures.items
      ∙ range_pushed [] c.loop-i.numbers.items c.args.first c.loop-i.i c.loop-i.invariant.0,
  omega (arith, c.push_reserved.ensures.len, c.loop-i.invariant.1),
  c.push_reserved.ensures.capacity ∙ c.loop-i.invariant.2,
)
