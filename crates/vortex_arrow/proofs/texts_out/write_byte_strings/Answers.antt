use Rattle.std.proofs.Common.{rules, ◌≡◌, ◌<◌, ◌≤◌, ◌+◌, refl, sym, length, take, ap, ◌∙◌, arith, pos}
use Rattle.std.proofs.lemmas.List.{drop-set-lt, length-set, length-map}
use Rattle.vortex_arrow.specs.Written.{value_bytes, joined}
use Rattle.vortex_arrow.proofs.Cells.{behind_next}
use Rattle.vortex_arrow.proofs.Parts.{drop_further}
use Rattle.vortex_arrow.proofs.Joined.{end_more, end_within, bytes_more, offset_first, offset_more}
use Rattle.vortex_arrow.proofs.Joined.{joined_all}
use Rattle.vortex_arrow.proofs.texts_out.write_byte_strings.Goals as goal

pub loop-i-init : goal.loop-i-init
loop-i-init g c = record {
  count = refl;
  bytes = refl;
  bytes_behind = refl;
  offsets = offset_first g.O.IndexType.number c.args.offsets.now c.of_place.result
      c.args.column.now.rows (omega (arith, c.requires.offsets)) c.of_place.ensures;
  offsets_behind = drop-set-lt 1 c.args.offsets.now 0 c.of_place.result (omega arith);
}

pub write_at-requires : goal.write_at-requires
write_at-requires g c =
    let rows = c.args.column.now.rows in
    let i = c.loop-i.i in
    let within : i < length rows = search rules in
    let is = c.bytes_of-value.ensures ∙ ap value_bytes c.cell.ensures.value in
    omega (
      arith,
      end_within rows i within c.bytes_of-value.result.now is c.loop-i.end c.loop-i.invariant.count,
      c.requires.room,
      c.loop-i.auto.bytes,
    )

pub of_place-requires-in-loop-i : goal.of_place-requires-in-loop-i
of_place-requires-in-loop-i g c =
    let rows = c.args.column.now.rows in
    let i = c.loop-i.i in
    let within : i < length rows = search rules in
    let is = c.bytes_of-value.ensures ∙ ap value_bytes c.cell.ensures.value in
    omega (
      arith,
      end_within rows i within c.bytes_of-value.result.now is c.loop-i.end c.loop-i.invariant.count,
      c.requires.most,
    )

pub loop-i-preserved : goal.loop-i-preserved
loop-i-preserved g c =
    let rows = c.args.column.now.rows in
    let i = c.loop-i.i in
    let end = c.loop-i.end in
    let v = c.bytes_of-value.result.now in
    let within : i < length rows = search rules in
    let is = c.bytes_of-value.ensures ∙ ap value_bytes c.cell.ensures.value in
    let more = end_more rows i within v is end c.loop-i.invariant.count in
    let place : i + 1 < length c.loop-i.offsets =
    omega (
      arith,
      within,
      c.requires.offsets,
      c.loop-i.auto.offsets,
      length-set c.args.offsets.now 0 c.of_place.result,
    ) in
    record {
      count = more;
      bytes = bytes_more rows i within v is end c.loop-i.invariant.count c.loop-i.bytes
          c.write_at.new.out c.loop-i.invariant.bytes c.write_at.ensures.before
          c.write_at.ensures.here;
      bytes_behind = c.write_at.ensures.behind
          ∙ drop_further c.loop-i.bytes c.args.bytes.now end (end + length v) (omega arith)
          c.loop-i.invariant.bytes_behind;
      offsets = offset_more g.O.IndexType.number c.loop-i.offsets c.of_place-in-loop-i.result rows i
          place c.loop-i.invariant.offsets
          (c.of_place-in-loop-i.ensures ∙ ap (λ n. pos n) more);
      offsets_behind = behind_next g.O.IndexType.number c.loop-i.offsets (i + 1)
          c.of_place-in-loop-i.result place c.args.offsets.now c.loop-i.invariant.offsets_behind;
    }

pub returns-clause-packed : goal.returns-clause-packed
returns-clause-packed g c =
    let rows = c.args.column.now.rows in
    let i = c.loop-i.i in
    let end = c.loop-i.end in
    let over : length rows ≤ i = search rules in
    let all = joined_all rows i over in
    let count : end ≡ length (joined rows) = c.loop-i.invariant.count ∙ ap length all in
    record {
      count = omega (
        arith,
        length-map c.loop-i.offsets g.O.IndexType.number,
        c.requires.offsets,
        c.loop-i.auto.offsets,
        length-set c.args.offsets.now 0 c.of_place.result,
      );
      places = λ k le. c.loop-i.invariant.offsets k (omega (arith, over, le));
      bytes = ap (λ n. take n c.loop-i.bytes) (sym count) ∙ c.loop-i.invariant.bytes ∙ all;
    }
