use Rattle.std.proofs.Common.{◌∙◌, cond}
use Rattle.vortex_kernels.proofs.records.JoinedBitWords.word.Goals as goal

pub word-requires-clause-rows : goal.word-requires-clause-rows
word-requires-clause-rows g c = λ j le. (c.requires.rows j le).0

pub word-requires-2-clause-rows : goal.word-requires-2-clause-rows
word-requires-2-clause-rows g c = λ j le. (c.requires.rows j le).1.0

pub returns : goal.returns
returns g c = λ j lt.
    c.chosen_word.ensures j lt
    ∙ (λ i. cond (c.word.ensures j lt i) (c.word-2.ensures j lt i) (c.word-3.ensures j lt i))
