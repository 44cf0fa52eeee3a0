use Rattle.std.proofs.Common.{◌∷◌, codes, add-one, subst, sym, take}
use Rattle.std.specs.List.{flat_map}
use Rattle.rowfn_index.specs.IndexTexts.{HasFields, text_entry, column_entries}
use Rattle.rowfn_index.proofs.Lines.{more_fields, flat_mapped_more}
use Rattle.rowfn_index.proofs.writing.push_columns.Goals as goal

pub loop-k-preserved : goal.loop-k-preserved
loop-k-preserved c =
    let xs = c.args.columns.now in
    let k = c.loop-k.k in
    let x = c.index-columns-k.result in
    let before = c.args.entries.now in
    let after = c.push_column.new.entries in
    let title = text_entry (codes "columns") in
    subst (λ fs. HasFields before after (title ∷ fs))
    (sym (flat_mapped_more column_entries xs k _ x (add-one k) c.loop-k-test.true
    c.index-columns-k.is))
    (more_fields before c.loop-k.entries after (title ∷ flat_map column_entries (take k xs))
    (column_entries x) c.loop-k.invariant c.in_ok-push_column.ensures)
