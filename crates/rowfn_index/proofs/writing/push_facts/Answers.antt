use Rattle.std.proofs.Common.{◌∷◌, [], codes}
use Rattle.rowfn_index.specs.IndexTexts.{text_entry}
use Rattle.rowfn_index.proofs.Lines.{more_fields}
use Rattle.rowfn_index.proofs.writing.push_facts.Goals as goal

pub returns : goal.returns
returns c =
    let a = c.args.entries.now in
    let offset = text_entry (codes "offset") in
    let bytes = text_entry (codes "bytes") in
    let rows = text_entry (codes "rows") in
    let whole = text_entry (codes "whole") in
    let digest = text_entry (codes "digest") in
    let two =
    more_fields a c.push_text.new.self c.push_text-2.new.self (offset ∷ []) (bytes ∷ [])
    c.in_ok-push_text.ensures c.in_ok-push_text-2.ensures in
    let three =
    more_fields a c.push_text-2.new.self c.push_text-3.new.self (offset ∷ bytes ∷ []) (rows ∷ []) two
    c.in_ok-push_text-3.ensures in
    let four =
    more_fields a c.push_text-3.new.self c.push_text-4.new.self (offset ∷ bytes ∷ rows ∷ [])
    (whole ∷ []) three c.in_ok-push_text-4.ensures in
    more_fields a c.push_text-4.new.self c.push_text-5.new.self
    (offset ∷ bytes ∷ rows ∷ whole ∷ []) (digest ∷ []) four c.in_ok-push_text-5.ensures
