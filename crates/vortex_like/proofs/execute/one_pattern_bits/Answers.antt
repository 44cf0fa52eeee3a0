use Rattle.std.proofs.Common.{sym, ap, ◌∙◌, subst, length, List, ℕ}
use Rattle.std.specs.Str.{chars}
use Rattle.vortex_errors.specs.Answers.{AnswersUnlessMemory}
use Rattle.vortex_columns.specs.ColumnView.{row}
use Rattle.vortex_like.specs.Tokens.{is_match}
use Rattle.vortex_like.specs.Patterns.{PatternView}
use Rattle.vortex_like.specs.Rows.{AreTold, IsSaid}
use Rattle.vortex_like.proofs.execute.one_pattern_bits.Goals as goal

pub returns : goal.returns
returns c =
    subst
    (λ (p : PatternView).
    AnswersUnlessMemory c.matched_rows.result
    (AreTold (length c.args.column.now.rows)
    (λ i b.
    IsSaid (λ (bytes : List ℕ). is_match p.case_insensitive p.tokens (chars bytes))
    c.args.options.negated (row c.args.column.now.rows i) b)))
    c.in_ok-pattern.ensures c.matched_rows.ensures

pub matched_rows-requires-clause-ascii : goal.matched_rows-requires-clause-ascii
matched_rows-requires-clause-ascii c = λ e.
    c.fold_as_ascii-ascii.ensures
    (sym (ap (λ (p : PatternView). p.ascii_haystack) c.in_ok-pattern.ensures) ∙ e)
