use Rattle.std.proofs.Common.{◌∙◌, ◌&&◌}
use Rattle.vortex_bits.proofs.WordLogic.{and_bit}
use Rattle.vortex_arrow.proofs.true_words.JointBitsBitWords.word.Goals as goal

pub word-requires : goal.word-requires
word-requires c = record {
  place = c.requires.place;
  rows = λ j le. (c.requires.rows j le).0;
}

pub word-requires-2 : goal.word-requires-2
word-requires-2 c = record {
  place = c.requires.place;
  rows = λ j le. (c.requires.rows j le).1;
}

pub returns : goal.returns
returns c = λ j lt.
    and_bit c.word.result c.word-2.result j
    ∙ (λ i. c.word.ensures j lt i && c.word-2.ensures j lt i)
