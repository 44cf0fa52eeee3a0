use Rattle.std.proofs.Common.{rules, ◌≡◌, ◌+◌, ◌<◌, [], Bool, cond, ap, ◌∙◌, subst, arith}
use borrow.Author.Count.{below_more}
use Rattle.vortex_views.specs.Collected.{HaveRoom}
use Rattle.vortex_columns.specs.ValidityView.{validity_of, is_valid_row}
use Rattle.vortex_arrow.specs.Columns.{row_bytes}
use Rattle.vortex_arrow.proofs.Collecting.{one_more_kept, room_for_next, all_taken, push_refused}
use Rattle.vortex_arrow.proofs.byte_rows.collect_byte_strings.Goals as goal

pub loop-i-preserved : goal.loop-i-preserved
loop-i-preserved g c =
    let item = g.R.ByteRows.item c.args.rows.now in
    let v = validity_of c.args.validity.now in
    let from = c.args.offset in
    let i = c.loop-i.i in
    let value_is : c.in-Ok.value.now ≡ row_bytes item v from i =
    c.in-Ok.ensures.1 ∙ ap (λ b. cond b (item (from + i)) []) c.is_valid.ensures in
    let within : i < c.args.length = search rules in
    let kept =
    one_more_kept (row_bytes item v from) c.args.length i within c.loop-i.builder
    c.in-Ok.value.now c.loop-i.invariant.values value_is c.loop-i.invariant.room
    c.in-Ok-push_value.ensures.0 in
    record {
      values = c.in-Ok-push_value.ensures.1 ∙ kept.0;
      room = kept.1;
      lie = below_more (λ k. g.R.ByteRows.lies c.args.rows.now (from + k) (is_valid_row v k)) i
          c.loop-i.invariant.lie
          (subst (λ (b : Bool). g.R.ByteRows.lies c.args.rows.now (from + i) b) c.is_valid.ensures
          c.in-Ok.ensures.0);
    }

pub returns-in-Err-push_value : goal.returns-in-Err-push_value
returns-in-Err-push_value g c =
    let item = g.R.ByteRows.item c.args.rows.now in
    let v = validity_of c.args.validity.now in
    let from = c.args.offset in
    let i = c.loop-i.i in
    let value_is : c.in-Ok.value.now ≡ row_bytes item v from i =
    c.in-Ok.ensures.1 ∙ ap (λ b. cond b (item (from + i)) []) c.is_valid.ensures in
    let within : i < c.args.length = search rules in
    push_refused _ _ _ _ _ _ c.in-Err-push_value.error
    (room_for_next (row_bytes item v from) c.args.length i within c.loop-i.builder
    c.in-Ok.value.now c.loop-i.invariant.values value_is)
    c.in-Err-push_value.ensures

pub returns-in-Ok-finish : goal.returns-in-Ok-finish
returns-in-Ok-finish g c =
    let item = g.R.ByteRows.item c.args.rows.now in
    let v = validity_of c.args.validity.now in
    let f = row_bytes item v c.args.offset in
    let over : c.args.length ≡ c.loop-i.i = search rules in
    let all = all_taken f c.args.length c.loop-i.i over in (
      λ i lt. c.loop-i.invariant.lie i (omega (arith, over, lt)),
      subst HaveRoom all c.loop-i.invariant.room,
      c.in-Ok-finish.ensures ∙ c.loop-i.invariant.values ∙ all,
    )
