use Rattle.std.proofs.Common.{length, sym, ap, ◌∙◌, subst, arith}
use Rattle.vortex_columns.specs.ColumnView.{entries}
use Rattle.vortex_columns.specs.Cells.{sequence_values, IsSequence}
use Rattle.vortex_columns.specs.declared.cell.Sequence.{Sequence}
use Rattle.vortex_columns.proofs.ListParts.{length_part, length_entries}
use Rattle.vortex_columns.proofs.cell.Sequence.len.Goals as goal

pub returns-in-Entries : goal.returns-in-Entries
returns-in-Entries c =
    let whole = subst (λ (s : Sequence). IsSequence s) c.in-Entries.is c.requires in
    let ks = c.in-Entries.field-0.now.rows in
    let vs = c.in-Entries.field-1.now.rows in
    sym
    (ap (λ (s : Sequence). length (sequence_values s)) c.in-Entries.is
    ∙ length_part (entries ks vs) c.in-Entries.field-2 c.in-Entries.count
    (omega (arith, whole.0, length_entries ks vs whole.1)))
