use Rattle.std.proofs.Common.{◌≡◌, ◌∙◌, ◌++◌, ap, subst, sym, to_z, of_z, to_z-of_z, w64}
use Rattle.vortex_logical.specs.Cells.{IsCellText, WritesCell}
use Rattle.vortex_sql_rows.specs.AnsweredRows.{MakesRow}
use Rattle.vortex_sql_texts.specs.MadeTexts.{text_or_fault}
use Rattle.vortex_sql_kind_texts.specs.KindTexts.{written_or_fault}
use Rattle.vortex_sql_kind_texts.specs.StoredKinds.{range_fault_of, written_kind_of}
use Rattle.vortex_sql_kind_texts.proofs.WrittenTexts.{kind_written}
use Rattle.vortex_sql_kind_texts.proofs.to_texts.kind_text.Goals as goal

pub returns-then-branch : goal.returns-then-branch
returns-then-branch c =
    let number = to_z-of_z c.ranges.number in
    let wrote = subst (λ b. WritesCell c.kind.result (to_z w64 (of_z w64 c.args.number)) c.new-out.result.items c.write_cell.new.out.items b) c.if-branch.true c.in_ok-write_cell.ensures in
    let text = wrote.1.0 in
    let of_kind = subst (λ k. IsCellText k (to_z w64 (of_z w64 c.args.number)) text) c.kind.ensures wrote.1.1 in
    let is = subst (λ z. IsCellText (written_kind_of c.args.kind) z text) number of_kind in
    let new : c.write_cell.new.out.items ≡ text = wrote.1.2 ∙ ap (λ old. old ++ text) c.new-out.ensures.items in
    let written = ap (written_or_fault (range_fault_of c.args.kind)) (kind_written c.args.kind c.args.number text c.dated_days.ensures is) in
    subst (λ o. MakesRow o c.bytes_or_fault.result) (sym (written ∙ ap text_or_fault (sym new))) c.bytes_or_fault.ensures
