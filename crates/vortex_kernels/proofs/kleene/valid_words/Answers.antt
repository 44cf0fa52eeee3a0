use Rattle.vortex_kernels.proofs.KleeneBits.{valid_word}
use Rattle.vortex_kernels.proofs.kleene.valid_words.Goals as goal

pub returns : goal.returns
returns g c = λ j lt.
    valid_word g.K.KleeneTable.operator c.deciding.result c.deciding-2.result c.args.left
    c.args.left_valid c.args.right c.args.right_valid j g.K.KleeneTable.boolean
    (c.deciding.ensures j lt) (c.deciding-2.ensures j lt)
