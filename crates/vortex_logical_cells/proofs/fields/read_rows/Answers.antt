use Rattle.std.proofs.Common.{sym, ap, ◌∙◌, option_map, map, arith, List, ℕ, subst}
use Rattle.std.specs.List.{range_with_len}
use Rattle.std.proofs.lemmas.List.{take_all}
use Rattle.std.proofs.lemmas.List.FromFn.{length-range_with_len}
use Rattle.vortex_types.specs.TypeOf.{allows_null}
use Rattle.vortex_types.specs.Values.{number}
use Rattle.vortex_cells.specs.Cells.{cell_in, cell_apart, item_or_null, AreCells}
use Rattle.vortex_cells.proofs.AllSome.{some_missing}
use Rattle.vortex_cells.proofs.Apart.{cell_there}
use Rattle.vortex_logical_cells.specs.StoredFields.{stored_value, stored_values}
use Rattle.vortex_logical_cells.proofs.StoredRows.{stored_read}
use Rattle.vortex_logical_cells.proofs.fields.read_rows.Goals as goal

pub returns-in_default : goal.returns-in_default
returns-in_default g c =
    let n = allows_null c.args.nullability in
    let k = g.R.KindReader.kind c.args.reader.now in
    let rows = c.args.row_count in
    let i = c.loop-row.row in
    let below = c.loop-row-test.true in
    some_missing (stored_value k n) (cell_apart (map cell_in c.args.fields.now) c.args.width c.args.column)
    (range_with_len 0 rows) i 0 (omega (arith, below, length-range_with_len 0 rows))
    (ap (stored_value k n)
    (cell_there c.args.fields.now c.args.width rows i c.args.column _ c.requires.even below
    c.requires.column)
    ∙ sym c.read_field.ensures
    ∙ ap (option_map (item_or_null (λ x. number (g.T.NativePType.number x)))) c.in_default.is)

pub loop-row-preserved : goal.loop-row-preserved
loop-row-preserved g c =
    let n = allows_null c.args.nullability in
    let k = g.R.KindReader.kind c.args.reader.now in
    let value = λ (x : g.row.T.Denot). number (g.T.NativePType.number x) in
    let rows = c.args.row_count in
    let i = c.loop-row.row in
    let below = c.loop-row-test.true in
    let said =
    ap (stored_value k n)
    (cell_there c.args.fields.now c.args.width rows i c.args.column _ c.requires.even below
    c.requires.column)
    ∙ sym c.read_field.ensures ∙ ap (option_map (item_or_null value)) c.in-Some.is in
    let room = c.loop-row.invariant in
    record {
      said = rw (
        c.push_reserved.ensures.items,
        c.is_some.ensures,
        c.push_reserved-in-loop-row.ensures.items,
        c.unwrap_or.ensures,
      )
          (stored_read k n g.T.NativePType.number (cell_apart (map cell_in c.args.fields.now) c.args.width c.args.column)
          (range_with_len 0 rows) i 0 c.loop-row.items.items c.loop-row.valid.items c.in-Some.item
          c.zero.result
          (omega (arith, below, length-range_with_len 0 rows)) room.said said);
      items = omega (arith, c.push_reserved-in-loop-row.ensures.len, room.items);
      items_room = c.push_reserved-in-loop-row.ensures.capacity ∙ room.items_room;
      valid = omega (arith, c.push_reserved.ensures.len, room.valid);
      valid_room = c.push_reserved.ensures.capacity ∙ room.valid_room;
    }

pub returns : goal.returns
returns g c =
    let n = allows_null c.args.nullability in
    let k = g.R.KindReader.kind c.args.reader.now in
    let field = cell_apart (map cell_in c.args.fields.now) c.args.width c.args.column in
    let all =
    take_all c.loop-row.row (range_with_len 0 c.args.row_count)
    (omega (arith, c.loop-row-test.false, length-range_with_len 0 c.args.row_count)) in
    subst
    (λ (rows : List ℕ). AreCells n (map (λ x. number (g.T.NativePType.number x)) c.loop-row.items.items)
    c.loop-row.valid.items (stored_values k n (map field rows)))
    all c.loop-row.invariant.said
