use Rattle.std.proofs.Common.{rules, ◌≡◌, map, true, arith}
use Rattle.vortex_types.specs.LogicalTypes.{is_text_type}
use Rattle.vortex_types.specs.Values.{null}
use Rattle.vortex_columns.specs.ColumnView.{row, is_bytes_like}
use Rattle.vortex_arrow.specs.Layouts.{offsets}
use Rattle.vortex_arrow.proofs.Copied.{copied_rows}
use Rattle.vortex_arrow.proofs.Joined.{bytes_of_row, told_by_bytes}
use Rattle.vortex_arrow.proofs.texts_out.copy_texts.Goals as goal

pub returns-clause-copied : goal.returns-clause-copied
returns-clause-copied g c =
    let t = c.args.column.now.dtype in
    let rows = c.args.column.now.rows in
    let os = map g.O.IndexType.number c.write_byte_strings.new.offsets in
    let all = c.write_byte_strings.new.bytes in
    let packed = c.write_byte_strings.ensures.packed in
    let like : is_bytes_like t ≡ true = search rules in
    record {
      bits = omega arith;
      items = λ some. omega (arith, packed.count);
      said = copied_rows rows c.write_validity.new.out (offsets (is_text_type t) os all)
          c.write_validity.ensures.bits
          (λ i h. told_by_bytes t (row rows i) os all i like (c.dtype.ensures.typed i null h)
          (bytes_of_row rows (is_text_type t) os all i h packed.bytes packed.places));
      packed = packed;
    }
