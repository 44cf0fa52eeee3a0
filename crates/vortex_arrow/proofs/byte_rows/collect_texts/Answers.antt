use Rattle.std.specs.Borrow.{Bor}
use Rattle.std.proofs.Common.{rules, ◌≡◌, ◌+◌, ◌++◌, ◌∷◌, [], ℕ, Bool, true, cond, List, map, ap, ◌∙◌}
use Rattle.std.proofs.Common.{sym, subst, arith}
use Rattle.std.specs.Prelude.{IsUtf8}
use Rattle.std.proofs.lemmas.List.{map_push}
use Rattle.std.proofs.lemmas.List.FromFn.{map-range_with_len_more}
use borrow.Author.Count.{below_more}
use Rattle.vortex_columns.specs.ValidityView.{validity_of, is_valid_row}
use Rattle.vortex_arrow.specs.Columns.{row_bytes}
use Rattle.vortex_arrow.proofs.Collecting.{is_text}
use Rattle.vortex_arrow.proofs.byte_rows.collect_texts.Goals as goal

pub loop-i-preserved : goal.loop-i-preserved
loop-i-preserved g c =
    let item = g.R.ByteRows.item c.args.rows.now in
    let v = validity_of c.args.validity.now in
    let from = c.args.offset in
    let i = c.loop-i.i in
    let bytes = c.in-Ok.bytes.now in
    let bytes_are : bytes ≡ row_bytes item v from i =
    c.in-Ok.ensures.1 ∙ ap (λ b. cond b (item (from + i)) []) c.is_valid.ensures in
    let same : c.in-Ok-from_utf8.text.now ≡ bytes = search rules in
    let is_utf8 : IsUtf8 bytes = search rules in
    record {
      count = omega (arith, c.push_reserved.ensures.len, c.loop-i.invariant.count);
      place = c.push_reserved.ensures.capacity ∙ c.loop-i.invariant.place;
      values = ap (map (λ (t : Bor (List ℕ)). t.now)) c.push_reserved.ensures.items
          ∙ map_push (λ (t : Bor (List ℕ)). t.now) c.loop-i.texts.items c.in-Ok-from_utf8.text
          ∙ (λ j. c.loop-i.invariant.values j ++ (same ∙ bytes_are) j ∷ [])
          ∙ sym (map-range_with_len_more (row_bytes item v from) 0 i i (omega arith));
      good = below_more
          (λ k. g.R.ByteRows.lies c.args.rows.now (from + k) (is_valid_row v k)
          × (is_valid_row v k ≡ true → IsUtf8 (item (from + k)))) i c.loop-i.invariant.good (
            subst (λ (b : Bool). g.R.ByteRows.lies c.args.rows.now (from + i) b) c.is_valid.ensures
                c.in-Ok.ensures.0,
            is_text (is_valid_row v i) bytes (item (from + i)) bytes_are is_utf8,
          );
    }
