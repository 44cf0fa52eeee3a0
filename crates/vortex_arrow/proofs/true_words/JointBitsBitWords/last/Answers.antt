use Rattle.std.proofs.Common.{◌∙◌, ◌&&◌}
use Rattle.vortex_bits.proofs.WordLogic.{and_bit}
use Rattle.vortex_arrow.proofs.true_words.JointBitsBitWords.last.Goals as goal

pub last-requires : goal.last-requires
last-requires c = record {
  some = c.requires.some;
  most = c.requires.most;
  place = c.requires.place;
  rows = λ j lt. (c.requires.rows j lt).0;
}

pub last-requires-2 : goal.last-requires-2
last-requires-2 c = record {
  some = c.requires.some;
  most = c.requires.most;
  place = c.requires.place;
  rows = λ j lt. (c.requires.rows j lt).1;
}

pub returns : goal.returns
returns c = λ j lt.
    and_bit c.last.result c.last-2.result j
    ∙ (λ i. c.last.ensures j lt i && c.last-2.ensures j lt i)
