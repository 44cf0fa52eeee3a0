use Rattle.std.proofs.Common.{rules, ◌<◌, length, subst}
use Rattle.vortex_types.specs.Values.{Value, number}
use Rattle.vortex_columns.specs.ColumnView.{row, IsUnlessNull}
use Rattle.vortex_arrow.proofs.Cells.{more_integers, behind_next}
use Rattle.vortex_arrow.proofs.copying.write_cells.Goals as goal

pub loop-i-preserved : goal.loop-i-preserved
loop-i-preserved g c =
    let f = g.T.NativePType.number in
    let rows = c.args.column.now.rows in
    let i = c.loop-i.i in
    let within : i < length c.loop-i.out = search rules in
    let here : IsUnlessNull (row rows i) (number (f c.integer_in.result)) =
    subst (λ (v : Value). IsUnlessNull v (number (f c.integer_in.result))) c.cell.ensures.value
    c.integer_in.ensures in
    record {
      integers = more_integers f c.loop-i.out i c.integer_in.result within rows
          c.loop-i.invariant.integers here;
      behind = behind_next f c.loop-i.out i c.integer_in.result within c.args.out.now
          c.loop-i.invariant.behind;
    }
