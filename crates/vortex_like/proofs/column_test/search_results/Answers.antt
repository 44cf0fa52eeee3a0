use Rattle.std.proofs.Common.{◌∙◌, List, Bool, false, ap, arith}
use Rattle.vortex_errors.proofs.Answering.{AnswersUnlessMemory-weaker}
use Rattle.vortex_like.specs.ByteTests.{holds_inside}
use Rattle.vortex_like.specs.TextRows.{texts_of}
use Rattle.vortex_like.proofs.Gathering.{small_at}
use Rattle.vortex_like.proofs.SaidRows.{told_held}
use Rattle.vortex_like.proofs.column_test.search_results.Goals as goal

pub returns : goal.returns
returns c =
    AnswersUnlessMemory-weaker c.collect_rows.result _ _
    (λ (bits : List Bool) rows.
    told_held (holds_inside c.args.test.now.finder) c.args.negated c.args.column.now
    (texts_of c.args.texts) c.as_slice.result.now bits c.len-2.result c.requires
    (λ i lt valid.
    rw c.as_slice.ensures.value
    (c.in_ok-held.ensures.each i (omega (arith, c.requires.count))
    ∙ ap (holds_inside c.args.test.now.finder) (small_at false (texts_of c.args.texts) i)))
    c.len-2.ensures
    rows)
    c.collect_rows.ensures
