use Rattle.std.proofs.Common.{[]}
use Rattle.rowfn_index.proofs.Lines.{AreLines, more_lines}
use Rattle.rowfn_index.proofs.writing.write_head.Goals as goal

pub returns : goal.returns
returns c =
    let none : AreLines c.new-entries.result [] =
    record { bytes = c.new-entries.ensures.bytes; begun = c.new-entries.ensures.begun } in
    let title = more_lines _ c.push_title.new.entries [] _ none c.in_ok-push_title.ensures in
    let words =
    more_lines _ c.push_words.new.entries _ _ title
    (rw c.deref.ensures.value at c.in_ok-push_words.ensures) in
    let file = more_lines _ c.push_file.new.entries _ _ words c.in_ok-push_file.ensures in
    let columns =
    more_lines _ c.push_columns.new.entries _ _ file
    (rw c.deref-2.ensures.value at c.in_ok-push_columns.ensures) in
    (more_lines _ c.push_names.new.entries _ _ columns
    (rw c.deref-3.ensures.value at c.in_ok-push_names.ensures)).bytes
