use Rattle.std.proofs.Common.{◌+◌, ℕ, add-one, arith, subst}
use Rattle.std.specs.Prelude.{false, slice_index_or}
use Rattle.vortex_bits.specs.Rows.{AreRows}
use Rattle.vortex_program.proofs.BitRuns.{word_more}
use Rattle.vortex_program.proofs.truths.words_are.Goals as goal

pub loop-k-preserved : goal.loop-k-preserved
loop-k-preserved c =
    let bits = c.args.bits.now in
    let view = c.slice-view.result in
    let seen =
    subst (λ (n : ℕ). AreRows n (λ i. slice_index_or bits (0 + i) false) view) c.len.ensures
    c.slice-view.ensures in
    word_more c.args.truth bits view c.word.result c.word_of-expected.result c.loop-k.k _
    (add-one c.loop-k.k) (omega (arith, c.loop-k-test.true, c.requires)) seen c.word.ensures
    c.word_of-expected.ensures c.if-word-expected.false c.loop-k.invariant
