use Rattle.std.proofs.Common.{◌≡◌, ◌∙◌, ℕ, Bool, true, List, length, ap, subst}
use Rattle.std.specs.Str.{chars}
use Rattle.vortex_errors.specs.Answers.{AnswersUnlessMemory}
use Rattle.vortex_columns.specs.ColumnView.{row}
use Rattle.vortex_like.specs.Tokens.{Token, tokens_of, is_match}
use Rattle.vortex_like.specs.Rows.{AreTold, IsSaid}
use Rattle.vortex_like.specs.declared.token_test.TokenTest.{TokenTest}
use Rattle.vortex_like.proofs.execute.prefix_bits.Goals as goal

pub returns : goal.returns
returns c =
    let test = c.in_ok-test.test in
    let rows = c.args.column.now.rows in
    let tokens : test.tokens.tokens.items
    ≡ tokens_of c.args.options.escape (chars c.args.both.0.now) =
    ap (λ (t : TokenTest). t.tokens.items) c.in_ok-test.ensures ∙ c.in_ok-tokens.ensures.tokens in
    subst
    (λ (ts : List Token).
    AnswersUnlessMemory c.any_prefix_results.result
    (AreTold (length rows)
    (λ i b.
    IsSaid (λ (bytes : List ℕ). is_match true ts (chars bytes)) c.args.options.negated
    (row rows i) b)))
    tokens
    (subst
    (λ (f : Bool).
    AnswersUnlessMemory c.any_prefix_results.result
    (AreTold (length rows)
    (λ i b.
    IsSaid (λ (bytes : List ℕ). is_match f test.tokens.tokens.items (chars bytes))
    c.args.options.negated (row rows i) b)))
    test.past_case c.any_prefix_results.ensures)
