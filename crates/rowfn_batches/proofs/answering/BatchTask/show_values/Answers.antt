use Rattle.std.proofs.Common.{sym, ◌∙◌, map, arith}
use Rattle.std.proofs.lemmas.Result.{err_from_is_err_and}
use Rattle.rowfn_batches.specs.Fields.{field_in}
use Rattle.rowfn_batches.specs.BatchAnswers.{width_of, first_fields, answers_asked}
use Rattle.rowfn_batches.proofs.ShownColumns.{hidden, lacking, all_replaced, unserved_shown}
use Rattle.rowfn_batches.proofs.Within.{value_long}
use Rattle.rowfn_batches.proofs.answering.BatchTask.show_values.Goals as goal

pub show_at-requires-clause-rows : goal.show_at-requires-clause-rows
show_at-requires-clause-rows c = λ value there.
    value_long c.args.self.now.asked (map field_in c.args.fields.now) c.args.row_count
    c.args.values.items c.requires c.loop-k.k value
    (sym (c.loop-k.invariant.rest c.loop-k.k (omega arith)) ∙ there)

pub returns-in_err-row : goal.returns-in_err-row
returns-in_err-row c =
    let x = c.args.self.now.asked in
    let fs = map field_in c.args.fields.now in
    let p = err_from_is_err_and c.from_residual.result c.from_residual.ensures.1 in
    rw (p.1, p.2)
    (unserved_shown x fs c.args.row_count c.loop-k.k c.args.values.items c.in_err-row.field-0.0
    c.requires
    (hidden (width_of x) (first_fields x fs c.args.row_count) c.args.row_count (answers_asked x)
    c.args.values.items c.loop-k.k c.in_err-row.field-0.0 c.loop-k.shown.items c.loop-k.invariant
    c.in_err-row.ensures))

pub returns-in-Some : goal.returns-in-Some
returns-in-Some c =
    let x = c.args.self.now.asked in
    let fs = map field_in c.args.fields.now in
    let stop = rw c.in-Some.is at c.in_ok-row.ensures in (
      c.loop-k.k,
      c.args.values.items,
      stop.0,
      c.requires,
      lacking (width_of x) (first_fields x fs c.args.row_count) c.args.row_count (answers_asked x)
          c.args.values.items c.loop-k.k c.in-Some.row stop.0 c.loop-k.shown.items
          c.loop-k.invariant stop.1,
      stop.2,
    )

pub returns : goal.returns
returns c =
    let x = c.args.self.now.asked in
    let fs = map field_in c.args.fields.now in
    record {
      values = c.args.values.items;
      are = c.requires;
      shows =
          all_replaced (width_of x) (first_fields x fs c.args.row_count) c.args.row_count
          (answers_asked x) c.args.values.items c.loop-k.k c.loop-k.shown.items
          (omega (arith, c.loop-k-test.false, c.len-k-end.ensures)) c.loop-k.invariant;
    }
