use Rattle.std.proofs.Common.{◌&&◌, ◌||◌, arith, false, length, map, not}
use Rattle.std.specs.Prelude.{slice_index_or}
use Rattle.vortex_types.specs.LogicalTypes.{is_nullable}
use Rattle.vortex_types.specs.Values.{is_null, null}
use Rattle.vortex_columns.specs.ColumnView.{row}
use Rattle.vortex_columns.specs.ValidityView.{validity_of}
use Rattle.vortex_kernels.proofs.RowLemmas.{bool_answers}
use Rattle.vortex_sets.specs.ItemSets.{is_member}
use Rattle.vortex_sql_in_list.specs.InLists.{in_values}
use Rattle.vortex_sql_in_list.proofs.FoundRows.{found_row}
use Rattle.vortex_sql_in_list.proofs.found.found_column.Goals as goal

pub returns : goal.returns
returns g c =
    let column = c.args.column.now in
    let items = map g.I.SetItem.value c.args.set.now.items.items in
    let values = g.R.ItemRows.values c.args.rows.now in
    bool_answers (is_nullable column.dtype || c.args.has_null) (length column.rows)
    (λ i. not (is_null (row column.rows i))
    && (not c.args.has_null || is_member items (slice_index_or values i null)))
    (λ i. in_values items c.args.has_null (row column.rows i)) c.in_ok-bits.bits
    (validity_of c.in_ok-validity.validity) c.try_bool.result
    (omega (arith, c.in_ok-bits.ensures.count, c.len.ensures)) c.in_ok-validity.ensures
    (λ i lt.
    found_row items c.args.has_null (row column.rows i) (slice_index_or values i null)
    (slice_index_or c.in_ok-bits.bits i false)
    (c.requires.each i (omega (arith, lt, c.requires.count)))
    (c.in_ok-bits.ensures.each i (omega (arith, lt, c.len.ensures))))
    c.try_bool.ensures
