use Rattle.std.proofs.Common.{◌∙◌, ◌<◌, cond, arith}
use Rattle.std.specs.Prelude.{◌&&◌, ◌+◌, ◌*◌}
use Rattle.vortex_bits.specs.Forms.{shifted_bit}
use Rattle.vortex_bits.proofs.WordLogic.{and_bit}
use Rattle.vortex_kernels.proofs.records.NullsLeastBitWords.last.Goals as goal

pub returns : goal.returns
returns g c = λ j lt.
    let below : j < 64 = omega (arith, lt, c.requires.most) in
    let l = c.last-left.ensures j lt in
    let r = c.last-right.ensures j lt in
    c.chosen_word.ensures j below
    ∙ (λ i.
    cond (and_bit c.last-left.result c.last-right.result j i) (c.last-values.ensures j lt i)
    (c.of_words.ensures j below i))
    ∙ (λ i.
    cond (l i && r i) (shifted_bit c.args.self.now.values (64 * c.args.k + j))
    (g.P.WordFormula.says (l i) (r i)))
