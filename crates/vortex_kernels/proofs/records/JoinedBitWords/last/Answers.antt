use Rattle.std.proofs.Common.{◌∙◌, cond, arith}
use Rattle.vortex_kernels.proofs.records.JoinedBitWords.last.Goals as goal

pub returns : goal.returns
returns g c = λ j lt.
    c.chosen_word.ensures j (omega (arith, lt, c.requires.most))
    ∙ (λ i.
    cond (c.last-equal.ensures j lt i) (c.last-rest.ensures j lt i) (c.last.ensures j lt i))
