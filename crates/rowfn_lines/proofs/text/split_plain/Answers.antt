use Rattle.std.proofs.Common.{lit<, Some, None}
use Rattle.std.proofs.lemmas.Str.Pattern.{split_parts}
use Rattle.rowfn_lines.proofs.Words.{plain_split, plain_last}
use Rattle.rowfn_lines.proofs.text.split_plain.Goals as goal

pub returns-in-Some-clause-word : goal.returns-in-Some-clause-word
returns-in-Some-clause-word c =
    let parts =
    split_parts 32 c.args.text.now (Some (c.in-Some.word, c.in-Some.after))
    c.in-Some.ensures.cases (lit< tt) in
    plain_split c.args.text.now c.in-Some.word.now c.in-Some.after.now c.requires parts.0 parts.1

pub returns-in-None-clause-word : goal.returns-in-None-clause-word
returns-in-None-clause-word c =
    plain_last c.args.text.now c.requires
    (split_parts 32 c.args.text.now None c.in-None.ensures.cases (lit< tt))
