use Rattle.std.proofs.Common.{◌∙◌, List, Bool, true, ℕ, ap, arith}
use Rattle.std.specs.Str.{chars}
use Rattle.vortex_errors.proofs.Answering.{AnswersUnlessMemory-weaker}
use Rattle.vortex_like.specs.ByteTests.{holds_inside}
use Rattle.vortex_like.specs.TextRows.{texts_of, text_at}
use Rattle.vortex_like.specs.Tokens.{is_match}
use Rattle.vortex_like.proofs.Gathering.{small_at}
use Rattle.vortex_like.proofs.SaidRows.{told_held}
use Rattle.vortex_like.proofs.column_test.lower_case_results.Goals as goal

pub returns : goal.returns
returns c =
    let test = c.args.test.now in
    let texts : List (List ℕ) = texts_of c.args.texts in
    AnswersUnlessMemory-weaker c.collect_rows.result _ _
    (λ (bits : List Bool) rows.
    told_held
    (λ (bytes : List ℕ).
    is_match test.tokens.case_insensitive test.tokens.tokens.items (chars bytes))
    c.args.negated c.args.column.now texts c.as_slice.result.now bits c.len.result c.requires.texts
    (λ i lt valid.
    rw c.as_slice.ensures.value
    (c.in_ok-held.ensures.each i (omega (arith, c.requires.texts.count))
    ∙ ap (holds_inside test.search.finder) (small_at true texts i)
    ∙ test.same (text_at texts i) (c.requires.ascii i lt valid)))
    c.len.ensures rows)
    c.collect_rows.ensures
