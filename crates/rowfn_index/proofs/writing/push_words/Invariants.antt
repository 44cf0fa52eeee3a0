use Rattle.std.proofs.Common.{◌∷◌, codes, map, take}
use Rattle.rowfn_index.specs.IndexTexts.{HasFields, text_entry, word_entry}
use Rattle.rowfn_index.proofs.writing.push_words.Given as goal

-- the words so far are added
abbrev pub invariant-loop-k : goal.invariant-loop-k
invariant-loop-k l =
    HasFields l.fn.entries l.entries
    (text_entry (codes "options") ∷ map word_entry (take l.k l.words))
