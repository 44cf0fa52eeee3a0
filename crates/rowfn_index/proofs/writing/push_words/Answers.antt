use Rattle.std.proofs.Common.{◌∷◌, [], codes, map, take, add-one, subst, sym}
use Rattle.rowfn_index.specs.IndexTexts.{HasFields, text_entry, word_entry}
use Rattle.rowfn_index.proofs.Lines.{more_fields, mapped_more}
use Rattle.rowfn_index.proofs.writing.push_words.Goals as goal

pub loop-k-preserved : goal.loop-k-preserved
loop-k-preserved c =
    let ws = c.args.words.now in
    let k = c.loop-k.k in
    let w = c.index-words-k.result in
    let before = c.args.entries.now in
    let after = c.push_text-in-loop-k.new.self in
    let added = rw c.as_str.ensures.value at c.in_ok-push_text-2.ensures in
    subst (λ fs. HasFields before after (text_entry (codes "options") ∷ fs))
    (sym (mapped_more word_entry ws k _ w (add-one k) c.loop-k-test.true c.index-words-k.is))
    (more_fields before c.loop-k.entries after
    (text_entry (codes "options") ∷ map word_entry (take k ws)) (word_entry w ∷ []) c.loop-k.invariant added)
