use Rattle.std.proofs.Common.{lit<, None}
use Rattle.std.proofs.lemmas.Str.Pattern.{strip_prefix_char}
use Rattle.rowfn_lines.proofs.Words.{begins_plain}
use Rattle.rowfn_lines.proofs.text.split_word.Goals as goal

pub split_plain-requires : goal.split_plain-requires
split_plain-requires c =
    begins_plain c.args.text.now c.requires
    (strip_prefix_char 34 c.args.text.now None c.in-None.ensures.cases (lit< tt))
