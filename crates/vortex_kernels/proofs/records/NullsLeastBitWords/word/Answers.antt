use Rattle.std.proofs.Common.{◌∙◌, cond}
use Rattle.std.specs.Prelude.{◌&&◌, ◌+◌, ◌*◌}
use Rattle.vortex_bits.specs.Forms.{shifted_bit}
use Rattle.vortex_bits.proofs.WordLogic.{and_bit}
use Rattle.vortex_kernels.proofs.records.NullsLeastBitWords.word.Goals as goal

pub word-requires-clause-rows : goal.word-requires-clause-rows
word-requires-clause-rows g c = λ j le. (c.requires.rows j le).1.1

pub returns : goal.returns
returns g c = λ j lt.
    let l = c.word-left.ensures j lt in
    let r = c.word-right.ensures j lt in
    c.chosen_word.ensures j lt
    ∙ (λ i.
    cond (and_bit c.word-left.result c.word-right.result j i) (c.word.ensures j lt i)
    (c.of_words.ensures j lt i))
    ∙ (λ i.
    cond (l i && r i) (shifted_bit c.args.self.now.values (64 * c.args.k + j))
    (g.P.WordFormula.says (l i) (r i)))
