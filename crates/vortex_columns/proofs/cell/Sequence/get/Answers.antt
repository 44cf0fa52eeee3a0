use Rattle.std.proofs.Common.{◌≡◌, ◌≤◌, ◌+◌, ◌<◌, length, sym, ap, ◌∙◌, subst, arith}
use Rattle.vortex_columns.specs.ColumnView.{row, entries}
use Rattle.vortex_columns.specs.Cells.{sequence_values, IsSequence}
use Rattle.vortex_columns.specs.declared.cell.Sequence.{Sequence}
use Rattle.vortex_columns.proofs.ListParts.{length_part, length_entries, part_row, entries_row}
use Rattle.vortex_columns.proofs.cell.Sequence.get.Goals as goal

pub returns-in-Entries-clause-value : goal.returns-in-Entries-clause-value
returns-in-Entries-clause-value c =
    let whole = subst (λ (s : Sequence). IsSequence s) c.in-Entries.is c.requires.whole in
    let ks = c.in-Entries.keys.now.rows in
    let vs = c.in-Entries.values.now.rows in
    let start = c.in-Entries.start in
    let count = c.in-Entries.field-3 in
    let k = c.args.k in
    let within : start + count ≤ length (entries ks vs) =
    omega (arith, whole.0, length_entries ks vs whole.1) in
    let long : length (sequence_values c.args.self.now) ≡ count =
    ap (λ (s : Sequence). length (sequence_values s)) c.in-Entries.is
    ∙ length_part (entries ks vs) start count within in
    let here : k < count = omega (arith, c.requires.k_in) in
    let inside : start + k < length ks = omega (arith, whole.0) in
    sym (entries_row ks vs (start + k) inside whole.1) ∙ part_row (entries ks vs) start count k here
    ∙ ap (λ (s : Sequence). row (sequence_values s) k) (sym c.in-Entries.is)
