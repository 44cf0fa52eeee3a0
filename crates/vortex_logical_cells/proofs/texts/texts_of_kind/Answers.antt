use Rattle.std.proofs.Common.{◌≡◌, length, arith, length-append, subst, List, ℕ, sym, [], ◌∷◌}
use Rattle.std.proofs.lemmas.Result.{err_from_is_err_and}
use Rattle.vortex_columns.specs.ColumnView.{row}
use Rattle.vortex_logical_cells.specs.StoredTexts.{IsWritten}
use Rattle.vortex_logical_cells.proofs.WrittenTexts.{one_written, more_room, refused_text, refused_texts, are_texts}
use Rattle.vortex_logical_cells.proofs.texts.texts_of_kind.Goals as goal

pub returns-in_err-push : goal.returns-in_err-push
returns-in_err-push c =
    let p = err_from_is_err_and c.from_residual-in_err-push.result
    c.from_residual-in_err-push.ensures.1 in
    rw (p.1, p.2)
    (refused_text c.args.kind c.args.column.now.rows c.loop-place.texts c.loop-place.valid.items
    c.deref.result.now c.write_row.new.text.items c.in-Some.is_valid c.loop-place.place
    c.in_err-push.field-0.0 c.loop-place.invariant.count c.loop-place.invariant.written
    (rw c.in-Some.is at c.in_ok-is_valid.ensures) c.deref.ensures.value
    c.in_err-push.ensures.answer)

pub loop-place-preserved : goal.loop-place-preserved
loop-place-preserved c =
    let k = c.args.kind in
    let rows = c.args.column.now.rows in
    let ts = c.loop-place.texts in
    let t = c.deref.result.now in
    let before = c.loop-place.invariant in
    let room = c.in_ok-push.ensures.answer.0 in
    let w = subst (λ (u : List ℕ). IsWritten k (row rows c.loop-place.place) u c.in-Some.is_valid)
    (sym c.deref.ensures.value) (rw c.in-Some.is at c.in_ok-is_valid.ensures) in
    rw (c.in_ok-push.ensures.answer.1, c.in_ok-push-2.ensures.items)
    (record {
      written = one_written k rows ts c.loop-place.valid.items t c.in-Some.is_valid
          c.loop-place.place before.count before.written w;
      room = more_room ts t before.room room;
      count = omega (arith, length-append ts (t ∷ []), before.count);
    })

pub returns-in_err-column : goal.returns-in_err-column
returns-in_err-column c =
    let p = err_from_is_err_and c.from_residual-in_err-column.result
    c.from_residual-in_err-column.ensures.1 in
    rw (p.1, p.2)
    (refused_texts c.args.kind c.args.column.now.rows c.loop-place.texts c.loop-place.valid.items
    c.deref-2.result.now c.in_err-column.field-0.0 c.loop-place.invariant.written
    c.deref-2.ensures.value c.in_err-column.ensures)

pub returns : goal.returns
returns c =
    let all : length c.loop-place.texts ≡ c.args.row_count = omega (
      arith,
      c.loop-place-test.false,
      c.loop-place.auto.place-end,
      c.loop-place.invariant.count,
    ) in
    are_texts c.args.kind c.args.column.now.rows c.loop-place.texts c.loop-place.valid.items
    c.deref-2.result.now c.args.row_count c.in_ok-column.column all c.loop-place.invariant.written
    c.deref-2.ensures.value c.in_ok-column.ensures.1
