use Rattle.std.proofs.Common.{List, ℕ, Bool}
use Rattle.std.specs.Str.{chars}
use Rattle.vortex_errors.proofs.Answering.{AnswersUnlessMemory-weaker}
use Rattle.vortex_like.specs.FormTests.{form_said, test_folds, test_tokens}
use Rattle.vortex_like.specs.TextRows.{texts_of, text_at}
use Rattle.vortex_like.specs.Tokens.{is_match}
use Rattle.vortex_like.proofs.FormAnswers.{form_answer}
use Rattle.vortex_like.proofs.SaidRows.{told_alike}
use Rattle.vortex_like.proofs.column_test.tested_by_form.Goals as goal

pub returns : goal.returns
returns c =
    let test = c.args.test.now in
    let texts = texts_of c.args.texts in
    AnswersUnlessMemory-weaker c.form_results.result _ _
    (λ (bits : List Bool).
    told_alike (form_said test)
    (λ (bytes : List ℕ). is_match (test_folds test) (test_tokens test) (chars bytes))
    c.args.negated c.args.column.now texts bits c.requires.texts
    (λ i lt valid.
    form_answer test (text_at texts i) ((c.requires.texts.each i lt).utf8 valid)
    (λ form. c.requires.ascii form i lt valid)))
    c.form_results.ensures
