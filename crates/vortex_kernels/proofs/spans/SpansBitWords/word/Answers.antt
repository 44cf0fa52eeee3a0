use Rattle.std.proofs.Common.{arith, ◌+◌, ◌*◌}
use Rattle.vortex_kernels.proofs.spans.SpansBitWords.word.Goals as goal

pub span-requires-clause-rows : goal.span-requires-clause-rows
span-requires-clause-rows g c = λ j lt.
    let there = c.requires.rows j (omega (arith, lt)) in
    there.1.1.1 (64 * c.args.k + j) there.0
