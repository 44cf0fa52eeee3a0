use Rattle.std.proofs.Common.{subst, ◌+◌, ◌*◌}
use Rattle.vortex_kernels.specs.Records.{presence_there}
use Rattle.vortex_kernels.proofs.validity_words.ValidityWordsBitWords.word.Goals as goal

pub word-requires-in-Listed-clause-rows : goal.word-requires-in-Listed-clause-rows
word-requires-in-Listed-clause-rows c = λ j le.
    subst (λ p. presence_there p (64 * c.args.k + j)) c.in-Listed.is (c.requires.rows j le)
