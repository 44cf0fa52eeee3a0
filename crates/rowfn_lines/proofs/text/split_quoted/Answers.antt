use Rattle.std.proofs.Common.{rules, lit<, Some, None, sym, ap, ◌∙◌, length, arith}
use Rattle.std.proofs.lemmas.Str.Pattern.{split_parts, strip_prefix_char}
use Rattle.rowfn_lines.specs.Lines.{quoted, with_word, words_of, after_quotes}
use Rattle.rowfn_lines.proofs.Words.{quoted_split, open_quotes, unclosed_word, empty_by_length}
use Rattle.rowfn_lines.proofs.Words.{shorter_after}
use Rattle.rowfn_lines.proofs.text.split_quoted.Goals as goal

pub returns-in_default : goal.returns-in_default
returns-in_default c =
    open_quotes _ c.args.text.now
    (split_parts 34 c.args.text.now None c.in_default.ensures.cases (lit< tt))

pub returns-then-is_empty : goal.returns-then-is_empty
returns-then-is_empty c =
    let parts =
    split_parts 34 c.args.text.now (Some (c.in-Some.word, c.in-Some.after))
    c.in-Some.ensures.cases (lit< tt) in
    let none = empty_by_length c.in-Some.after.now (search rules) in (
      quoted_split c.args.text.now c.in-Some.word.now c.in-Some.after.now parts.0 parts.1
          ∙ (λ i. after_quotes c.in-Some.word.now (none i))
          ∙ sym (ap (λ bs. with_word (quoted c.in-Some.word.now) (words_of bs)) none),
      shorter_after c.args.text.now c.in-Some.word.now c.in-Some.after.now parts.0,
    )

pub returns-in-Some-strip_prefix : goal.returns-in-Some-strip_prefix
returns-in-Some-strip_prefix c =
    let parts =
    split_parts 34 c.args.text.now (Some (c.in-Some.word, c.in-Some.after))
    c.in-Some.ensures.cases (lit< tt) in
    let space =
    strip_prefix_char 32 c.in-Some.after.now (Some c.in-Some-strip_prefix.after)
    c.in-Some-strip_prefix.ensures.cases (lit< tt) in (
      quoted_split c.args.text.now c.in-Some.word.now c.in-Some.after.now parts.0 parts.1
          ∙ ap (after_quotes c.in-Some.word.now) space,
      omega (
        arith,
        shorter_after c.args.text.now c.in-Some.word.now c.in-Some.after.now parts.0,
        ap length space,
      ),
    )

pub returns-in-None : goal.returns-in-None
returns-in-None c =
    let parts =
    split_parts 34 c.args.text.now (Some (c.in-Some.word, c.in-Some.after))
    c.in-Some.ensures.cases (lit< tt) in
    quoted_split c.args.text.now c.in-Some.word.now c.in-Some.after.now parts.0 parts.1
    ∙ unclosed_word c.in-Some.word.now c.in-Some.after.now (search rules)
    (strip_prefix_char 32 c.in-Some.after.now None c.in-None.ensures.cases (lit< tt))
